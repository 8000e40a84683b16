use Rattle.std.proofs.Common.{◌≡◌, ◌≤◌, take}
use Rattle.solver_core.specs.Hands.{in_hand}
use Rattle.solver_core.proofs.pending.out_of.Given as goal

abbrev pub invariant-loop-flight : goal.invariant-loop-flight
invariant-loop-flight g l = record {
  count : l.out ≡ in_hand (take l.flight-index l.flights);
  few : l.out ≤ l.flight-index;
}
