use Rattle.std.proofs.Common.{List, ℕ, subst, sym, true≢false, ◌∙◌, arith}
use Rattle.std.proofs.lemmas.List.{take_all}
use Rattle.clean_base.specs.Lists.{At}
use Rattle.jimple_tree.specs.declared.tree.Class.{Class}
use Rattle.class_table.specs.Faults.{HaveNames}
use Rattle.class_table.proofs.Doubles.{one_more, first_here}
use Rattle.class_table.proofs.names.first_double.Goals as goal

pub returns-then-not-stands_at : goal.returns-then-not-stands_at
returns-then-not-stands_at c =
    let class = c.index-classes-place.result in
    first_here c.args.classes.now c.loop-place.place class (omega arith) c.index-classes-place.is c.loop-place.invariant
    (λ at. true≢false (sym (c.stands_at.ensures.1 (subst (λ (l : List (List ℕ)). At l c.loop-place.place class.name) (sym c.requires) at)) ∙ c.if-not-stands_at.true))

pub loop-place-preserved : goal.loop-place-preserved
loop-place-preserved c =
    let class = c.index-classes-place.result in
    one_more c.args.classes.now c.loop-place.place class (omega arith) c.index-classes-place.is c.loop-place.invariant
    (subst (λ (l : List (List ℕ)). At l c.loop-place.place class.name) c.requires (c.stands_at.ensures.0 c.if-not-stands_at.false))

pub returns : goal.returns
returns c = subst (λ (ds : List Class). HaveNames ds) (take_all c.loop-place.place c.args.classes.now (omega arith)) c.loop-place.invariant
