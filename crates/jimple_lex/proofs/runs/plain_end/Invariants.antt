use Rattle.std.proofs.Common.{◌≡◌, ◌≤◌, ◌<◌, ◌-◌, ℕ, length, true, slice_index}
use Rattle.jimple_words.specs.Bytes.{is_plain}
use Rattle.jimple_lex.proofs.runs.plain_end.Given as goal

abbrev pub invariant-loop-to : goal.invariant-loop-to
invariant-loop-to l = record {
  order : l.from ≤ l.to;
  within : l.to ≤ length l.bytes;
  each : (k : ℕ) → l.from ≤ k → k < l.to → is_plain (slice_index l.bytes k) ≡ true;
}

abbrev pub decreases-loop-to : goal.decreases-loop-to
decreases-loop-to l = length l.bytes - l.to
