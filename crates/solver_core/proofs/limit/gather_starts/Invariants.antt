use Rattle.std.proofs.Common.{◌≡◌, take}
use Rattle.ifds_model.specs.Runs.{opened}
use Rattle.solver_core.specs.Gathered.{Gathers, IsOfEach}
use Rattle.solver_core.proofs.limit.gather_starts.Given as goal

abbrev pub invariant-loop-node : goal.invariant-loop-node
invariant-loop-node g l = Gathers (IsOfEach (λ n a. a ≡ opened l.callee n) (take l.node-index l.starts)) l.fn.frames.keys l.frames.keys
