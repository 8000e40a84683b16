use Rattle.std.proofs.Common.{◌↔◌, ◌⊎◌, Contains, List, subst, arith}
use Rattle.std.proofs.lemmas.List.{take_all}
use Rattle.jimple_tree.specs.declared.tree.Catch.{Catch}
use Rattle.statement_graph.specs.Successors.{Handles, IsCaught}
use Rattle.statement_graph.proofs.Places.{both_more, none_more, none_caught, caught_more}
use Rattle.statement_graph.proofs.successors.add_handlers.Goals as goal

pub loop-catch-init : goal.loop-catch-init
loop-catch-init c t = none_more _ _ (none_caught c.args.place t)

pub loop-catch-preserved : goal.loop-catch-preserved
loop-catch-preserved c t = both_more _ _ (Handles c.catch-item.result c.args.place t) _ _ _ (c.loop-catch.invariant t) (c.in_ok-add_handler.ensures t)
    (caught_more c.args.catches.now c.loop-catch.catch-index c.catch-item.result c.args.place t (omega arith) c.catch-item.is)

pub returns : goal.returns
returns c t = subst (λ (cs : List Catch). Contains c.loop-catch.places t ↔ (Contains c.args.places.now t ⊎ IsCaught cs c.args.place t)) (take_all c.loop-catch.catch-index c.args.catches.now c.loop-catch-test.false) (c.loop-catch.invariant t)
