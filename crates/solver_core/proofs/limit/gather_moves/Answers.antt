use Rattle.std.proofs.Common.{arith, ◌≡◌}
use Rattle.solver_core.specs.Gathered.{IsNewTo}
use Rattle.solver_core.proofs.Gathered.{gathers_more, gathers_whole}
use Rattle.solver_core.proofs.limit.gather_moves.Goals as goal

pub loop-step-preserved : goal.loop-step-preserved
loop-step-preserved g c = gathers_more (λ step. IsNewTo (g.P.Problem.machine c.args.problem.now) c.args.parts.now c.args.context (λ m. m ≡ step)) c.args.moves.now c.loop-step.step-index c.step-item.result c.args.frames.now.keys c.loop-step.frames.keys c.gather_move.new.frames.keys (omega arith) c.step-item.is c.loop-step.invariant c.in_ok-gather_move.ensures

pub returns : goal.returns
returns g c = gathers_whole (λ step. IsNewTo (g.P.Problem.machine c.args.problem.now) c.args.parts.now c.args.context (λ m. m ≡ step)) c.args.moves.now c.loop-step.step-index c.args.frames.now.keys c.loop-step.frames.keys (omega arith) c.loop-step.invariant
