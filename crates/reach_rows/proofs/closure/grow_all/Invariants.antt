use Rattle.std.proofs.Common.{◌≡◌, false, take}
use Rattle.reach_rows.specs.Bits.{Grows, IsSound, AreClosed}
use Rattle.reach_rows.proofs.closure.grow_all.Given as goal

abbrev pub invariant-loop-node : goal.invariant-loop-node
invariant-loop-node l = record {
  grows : Grows l.width l.fn.bits l.bits l.grown;
  sound : IsSound l.rows l.width l.fn.bits → IsSound l.rows l.width l.bits;
  closed : l.grown ≡ false → AreClosed l.rows l.width l.bits (take l.node-index l.order);
}
