use Rattle.std.proofs.Common.{◌≡◌, ◌↔◌, List, Some, subst, ◌∙◌}
use Rattle.clean_base.specs.declared.ids.MethodId.{MethodId}
use Rattle.jimple_tree.specs.declared.tree.Class.{Class}
use Rattle.class_table.specs.Methods.{IsDeclared}
use Rattle.class_table.proofs.table.ClassTable.find_method.Goals as goal

pub returns : goal.returns
returns c = subst (λ (cs : List Class). (n : MethodId) → (c.find_method.result ≡ Some n) ↔ IsDeclared cs c.args.sig.now n) (c.as_slice.ensures.value ∙ c.self.view_is) c.find_method.ensures
