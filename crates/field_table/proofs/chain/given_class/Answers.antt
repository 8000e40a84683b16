use Rattle.std.proofs.Common.{◌≡◌, ◌<◌, ◌≤◌, ℕ, List, length, Some, None, subst}
use Rattle.std.specs.Prelude.{MatchOption, IfSome, IfNone}
use Rattle.std.specs.List.{HoldsAt}
use Rattle.class_table.specs.Hierarchy.{given}
use Rattle.class_table.proofs.Linked.{name_is}
use Rattle.class_table.proofs.Readings.{found_class, no_class}
use Rattle.jimple_tree.specs.declared.tree.Class.{Class}
use Rattle.field_table.proofs.chain.given_class.Goals as goal
use Rattle.field_table.proofs.chain.given_class.Goals.{After-get}

pub returns-in_default-clause-none : goal.returns-in_default-clause-none
returns-in_default-clause-none c = c.in_default.ensures.given

found : (c : After-get) → MatchOption c.get.result (length c.args.table.now ≤ c.in-Some.number.0) (λ x. (c.in-Some.number.0 < length c.args.table.now) × HoldsAt (λ (y : Class). x.now ≡ y) c.args.table.now c.in-Some.number.0)
found c =
    let i = c.in-Some.number.0 in
    subst (λ (ds : List Class). MatchOption c.get.result (length ds ≤ i) (λ x. (i < length ds) × HoldsAt (λ (y : Class). x.now ≡ y) ds i)) c.given.ensures.same c.get.ensures.lookup.3

pub returns-clause-some : goal.returns-clause-some
returns-clause-some c =
    let cs = c.args.table.now in
    let at = (c.find.ensures.found c.in-Some.number).0 c.in-Some.is in
    subst (λ (n : List ℕ). IfSome c.get.result (λ class. given cs n ≡ Some class.now)) (name_is cs c.in-Some.number.0 c.args.name.now at) (found_class cs c.given.ensures.table.names c.in-Some.number.0 c.get.result (found c))

pub returns-clause-none : goal.returns-clause-none
returns-clause-none c =
    let cs = c.args.table.now in
    let at = (c.find.ensures.found c.in-Some.number).0 c.in-Some.is in
    subst (λ (n : List ℕ). IfNone c.get.result (given cs n ≡ None)) (name_is cs c.in-Some.number.0 c.args.name.now at) (no_class cs c.given.ensures.table.names c.in-Some.number.0 at.0 c.get.result (found c))
