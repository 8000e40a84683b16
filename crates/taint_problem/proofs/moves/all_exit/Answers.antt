use Rattle.std.proofs.Common.{arith, sym}
use Rattle.taint_problem.specs.Moves.{Exits}
use Rattle.taint_problem.proofs.Sets.{one_more_is, all_done, pushed}
use Rattle.taint_problem.proofs.moves.all_exit.Goals as goal

pub loop-fact-preserved : goal.loop-fact-preserved
loop-fact-preserved c = one_more_is c.args.facts.now c.loop-fact.fact-index c.fact-item.result (Exits) _ _ _ (omega arith) (sym c.fact-item.is) c.loop-fact.invariant (pushed _ _ _ c.in_ok-push_exit.ensures)

pub returns : goal.returns
returns c = all_done c.args.facts.now c.loop-fact.fact-index (Exits) _ _ c.loop-fact-test.false c.loop-fact.invariant
