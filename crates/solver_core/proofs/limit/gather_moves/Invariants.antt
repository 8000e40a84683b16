use Rattle.std.proofs.Common.{◌≡◌, take}
use Rattle.solver_core.specs.Gathered.{Gathers, IsOfEach, IsNewTo}
use Rattle.solver_core.proofs.limit.gather_moves.Given as goal

abbrev pub invariant-loop-step : goal.invariant-loop-step
invariant-loop-step g l = Gathers (IsOfEach (λ step. IsNewTo (g.P.Problem.machine l.problem) l.parts l.context (λ m. m ≡ step)) (take l.step-index l.moves)) l.fn.frames.keys l.frames.keys
