use Rattle.reach_rows.specs.Bits.{Grows, GainsFrom}
use Rattle.reach_rows.proofs.Words.{HasTaken}
use Rattle.reach_rows.proofs.closure.take_in.Given as goal

abbrev pub invariant-loop-column : goal.invariant-loop-column
invariant-loop-column l = record {
  grows : Grows l.width l.fn.bits l.bits l.grown;
  gains : GainsFrom l.width l.a l.b l.fn.bits l.bits;
  taken : HasTaken l.width l.a l.b l.fn.bits l.bits l.column;
}
