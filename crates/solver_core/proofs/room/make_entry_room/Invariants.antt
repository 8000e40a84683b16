use Rattle.std.proofs.Common.{◌≤◌, slice_index, Contains, take}
use Rattle.entry_tables.specs.Tables.{IsUnchanged}
use Rattle.solver_core.specs.Room.{HasCallerRoom}
use Rattle.solver_core.proofs.room.make_entry_room.Given as goal

abbrev pub invariant-loop-ready : goal.invariant-loop-ready
invariant-loop-ready g l = record {
  same : IsUnchanged l.fn.tables l.tables;
  exits : l.kinds.exits ≤ slice_index l.tables.spare_exits l.context;
  callers : (r : _) → Contains (take l.ready-index l.readies) r → HasCallerRoom l.tables l.context r.step;
}
