use Rattle.std.proofs.Common.{arith}
use Rattle.std.proofs.lemmas.List.{get_or_default}
use Rattle.taint_problem.specs.Moves.{GoesTo}
use Rattle.taint_problem.proofs.Sets.{one_more, all_done}
use Rattle.taint_problem.proofs.moves.go_each.Goals as goal

pub loop-q-preserved : goal.loop-q-preserved
loop-q-preserved c = one_more c.args.qs.now c.loop-q.q-index _ (GoesTo c.args.program.now.code c.args.dir c.args.fact.now) _ _ _ (omega arith) c.loop-q.invariant (c.in_ok-go_to.ensures)

pub returns : goal.returns
returns c = all_done c.args.qs.now c.loop-q.q-index (GoesTo c.args.program.now.code c.args.dir c.args.fact.now) _ _ c.loop-q-test.false c.loop-q.invariant

pub go_to-requires : goal.go_to-requires
go_to-requires c = c.requires _ (c.loop-q.q-index, c.loop-q-test.true, get_or_default c.args.qs.now c.loop-q.q-index _ _ c.loop-q-test.true)
