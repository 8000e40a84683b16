use Rattle.std.proofs.Common.{◌≡◌, ◌↔◌, ℕ, List, IfOk, Some, subst, ◌∙◌}
use Rattle.clean_base.specs.Lists.{At}
use Rattle.clean_base.specs.declared.ids.MethodId.{MethodId}
use Rattle.jimple_tree.specs.declared.tree.Class.{Class}
use Rattle.class_table.specs.Hierarchy.{class_names}
use Rattle.class_table.specs.Resolving.{Resolves}
use Rattle.class_table.proofs.table.ClassTable.resolve.Goals as goal

pub returns : goal.returns
returns c =
    subst (λ (cs : List Class). IfOk c.resolve.result (λ found. (n : MethodId) → (found ≡ Some n) ↔ ((name : List ℕ) × At (class_names cs) c.args.class.0 name × Resolves cs name c.args.sig.now n)))
    (c.as_slice-classes.ensures.value ∙ c.self.view_is) c.resolve.ensures
