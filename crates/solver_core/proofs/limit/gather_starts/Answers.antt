use Rattle.std.proofs.Common.{arith, ◌≡◌}
use Rattle.ifds_model.specs.Runs.{opened}
use Rattle.solver_core.proofs.Gathered.{gathers_at, gathers_whole}
use Rattle.solver_core.proofs.limit.gather_starts.Goals as goal

pub loop-node-preserved : goal.loop-node-preserved
loop-node-preserved g c = gathers_at (λ n a. a ≡ opened c.args.callee n) c.args.starts.now c.loop-node.node-index _ c.args.frames.now.keys c.loop-node.frames.keys c.gather.new.items.keys (omega arith) c.loop-node.invariant c.in_ok-gather.ensures

pub returns : goal.returns
returns g c = gathers_whole (λ n a. a ≡ opened c.args.callee n) c.args.starts.now c.loop-node.node-index c.args.frames.now.keys c.loop-node.frames.keys (omega arith) c.loop-node.invariant
