use Rattle.std.proofs.Common.{◌≡◌, map, take, Contains}
use Rattle.solver_core.specs.Room.{JoinsWithin, HasStarts}
use Rattle.solver_core.proofs.ready.ready_moves.Given as goal

abbrev pub invariant-loop-step : goal.invariant-loop-step
invariant-loop-step g l = record {
  steps : map (λ r. r.step) l.readies.items ≡ take l.step-index l.moves;
  joins : (r : _) → Contains l.readies.items r → JoinsWithin l.tables l.context l.kinds.calls l.kinds.exits r.joins r.step;
  starts : (r : _) → Contains l.readies.items r → HasStarts (g.P.Problem.machine l.problem) l.tables r.starts.items r.step;
}
