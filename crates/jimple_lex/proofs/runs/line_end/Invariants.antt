use Rattle.std.proofs.Common.{◌≡◌, ◌≤◌, ◌<◌, ◌-◌, ℕ, length, true, slice_index, ◌==◌, not}
use Rattle.jimple_lex.specs.Bytes.{line_feed}
use Rattle.jimple_lex.proofs.runs.line_end.Given as goal

abbrev pub invariant-loop-to : goal.invariant-loop-to
invariant-loop-to l = record {
  order : l.from ≤ l.to;
  within : l.to ≤ length l.bytes;
  each : (k : ℕ) → l.from ≤ k → k < l.to → not (slice_index l.bytes k == line_feed) ≡ true;
}

abbrev pub decreases-loop-to : goal.decreases-loop-to
decreases-loop-to l = length l.bytes - l.to
