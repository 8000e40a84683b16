use Rattle.std.proofs.Common.{◌≡◌, length}
use Rattle.reach_rows.specs.Bits.{IsOwn, IsOwnOnly}
use Rattle.reach_rows.proofs.closure.set_owns.Given as goal

abbrev pub invariant-loop-a : goal.invariant-loop-a
invariant-loop-a l = record {
  len : length l.bits ≡ length l.fn.bits;
  own : IsOwn l.a l.width l.bits;
  only : IsOwnOnly l.width l.bits;
}
