use Rattle.std.proofs.Common.{arith, sym}
use Rattle.taint_problem.specs.Moves.{CallsEach}
use Rattle.taint_problem.proofs.Sets.{one_more_is, all_done}
use Rattle.taint_problem.proofs.moves.all_call.Goals as goal

pub loop-fact-preserved : goal.loop-fact-preserved
loop-fact-preserved c = one_more_is c.args.facts.now c.loop-fact.fact-index c.fact-item.result (CallsEach c.args.program.now.code c.args.s c.args.dir) _ _ _ (omega arith) (sym c.fact-item.is) c.loop-fact.invariant (c.in_ok-call.ensures)

pub returns : goal.returns
returns c = all_done c.args.facts.now c.loop-fact.fact-index (CallsEach c.args.program.now.code c.args.s c.args.dir) _ _ c.loop-fact-test.false c.loop-fact.invariant
