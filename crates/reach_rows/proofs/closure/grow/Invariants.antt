use Rattle.std.proofs.Common.{◌≡◌, ◌+◌, ◌-◌, ◌*◌, ℕ, false, cond, length}
use Rattle.reach_rows.specs.Bits.{HasBit, total, IsSound, IsClosed}
use Rattle.reach_rows.proofs.closure.grow.Given as goal

abbrev pub invariant-loop-grown : goal.invariant-loop-grown
invariant-loop-grown l = record {
  kept : (a b : ℕ) → HasBit l.width l.fn.bits a b → HasBit l.width l.bits a b;
  sound : IsSound l.rows l.width l.fn.bits → IsSound l.rows l.width l.bits;
  closed : l.grown ≡ false → IsClosed l.rows l.width l.bits;
}

-- the bits that may still be added, and the last pass
abbrev pub decreases-loop-grown : goal.decreases-loop-grown
decreases-loop-grown l = (length l.bits * 18446744073709551615 - total l.bits) + cond l.grown 1 0
