use Rattle.std.proofs.Common.{arith}
use Rattle.taint_problem.specs.Moves.{Enters}
use Rattle.taint_problem.proofs.Sets.{one_more, all_done, pushed}
use Rattle.taint_problem.proofs.moves.call_each.Goals as goal

pub loop-target-preserved : goal.loop-target-preserved
loop-target-preserved c = one_more c.args.targets.now c.loop-target.target-index _ (Enters c.args.s c.args.dir c.args.fact.now) _ _ _ (omega arith) c.loop-target.invariant (pushed _ _ _ c.in_ok-push_call.ensures)

pub returns : goal.returns
returns c = all_done c.args.targets.now c.loop-target.target-index (Enters c.args.s c.args.dir c.args.fact.now) _ _ c.loop-target-test.false c.loop-target.invariant
