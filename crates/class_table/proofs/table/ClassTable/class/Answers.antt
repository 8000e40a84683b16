use Rattle.std.proofs.Common.{◌≡◌, ◌<◌, ◌≤◌, List, length, subst, ◌∙◌}
use Rattle.std.specs.Prelude.{MatchOption}
use Rattle.std.specs.List.{HoldsAt}
use Rattle.jimple_tree.specs.declared.tree.Class.{Class}
use Rattle.class_table.specs.Faults.{IsTable, HaveNames}
use Rattle.class_table.proofs.Readings.{found_class, no_class}
use Rattle.class_table.proofs.table.ClassTable.class.Goals as goal
use Rattle.class_table.proofs.table.ClassTable.class.Goals.{After-get}

names : (c : After-get) → HaveNames c.args.self.now
names c = (subst IsTable c.self.view_is c.self.invariant.table).names

found : (c : After-get) → MatchOption c.get.result (length c.args.self.now ≤ c.args.class.0) (λ x. (c.args.class.0 < length c.args.self.now) × HoldsAt (λ (y : Class). x.now ≡ y) c.args.self.now c.args.class.0)
found c =
    subst (λ (ds : List Class). MatchOption c.get.result (length ds ≤ c.args.class.0) (λ x. (c.args.class.0 < length ds) × HoldsAt (λ (y : Class). x.now ≡ y) ds c.args.class.0)) (c.deref.ensures.value ∙ c.self.view_is)
    c.get.ensures.lookup.3

pub returns-clause-some : goal.returns-clause-some
returns-clause-some c = found_class c.args.self.now (names c) c.args.class.0 c.get.result (found c)

pub returns-clause-none : goal.returns-clause-none
returns-clause-none c = no_class c.args.self.now (names c) c.args.class.0 c.requires c.get.result (found c)
