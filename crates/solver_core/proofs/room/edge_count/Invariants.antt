use Rattle.std.proofs.Common.{◌≡◌, take}
use Rattle.std.specs.List.{sum_by}
use Rattle.solver_core.specs.Room.{edges_of}
use Rattle.solver_core.proofs.room.edge_count.Given as goal

abbrev pub invariant-loop-ready : goal.invariant-loop-ready
invariant-loop-ready g l = l.count ≡ sum_by edges_of (take l.ready-index l.readies)
