use Rattle.std.proofs.Common.{◌≡◌, ◌≤◌, take}
use Rattle.std.specs.List.{sum_by}
use Rattle.solver_core.specs.Room.{call_count, exit_count}
use Rattle.solver_core.proofs.ready.kinds_of.Given as goal

abbrev pub invariant-loop-step : goal.invariant-loop-step
invariant-loop-step g l = record {
  calls : l.calls ≡ sum_by call_count (take l.step-index l.moves);
  exits : l.exits ≡ sum_by exit_count (take l.step-index l.moves);
  few : l.calls ≤ l.step-index;
  low : l.exits ≤ l.step-index;
}
