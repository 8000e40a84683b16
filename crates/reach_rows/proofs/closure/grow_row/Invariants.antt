use Rattle.std.proofs.Common.{◌≡◌, false, take}
use Rattle.reach_rows.specs.Bits.{Grows, HasRows, IsSound}
use Rattle.reach_rows.proofs.closure.grow_row.Given as goal

abbrev pub invariant-loop-b : goal.invariant-loop-b
invariant-loop-b l = record {
  grows : Grows l.width l.fn.bits l.bits l.grown;
  sound : IsSound l.rows l.width l.fn.bits → IsSound l.rows l.width l.bits;
  closed : l.grown ≡ false → HasRows l.width l.bits l.a (take l.b-index l.nodes);
}
