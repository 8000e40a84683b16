use Rattle.std.proofs.Common.{◌≡◌, ◌≤◌, ◌+◌, take}
use Rattle.indexmap.specs.IndexSet.{spare}
use Rattle.entry_tables.proofs.kept.copy_all.Given as goal

abbrev pub invariant-loop-item : goal.invariant-loop-item
invariant-loop-item g l = record {
  keys : l.set.keys ≡ take l.item-index l.items;
  room : spare l.fn.set ≤ spare l.set + l.item-index;
}
