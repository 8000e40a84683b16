use Rattle.std.proofs.Common.{◌≡◌, ◌≤◌, ◌+◌, length}
use Rattle.source_sink.specs.Reading.{pairs, without_pairs}
use Rattle.source_sink.proofs.cursor.Cursor.take_pairs.Given as goal

abbrev pub invariant-pairs : goal.invariant-pairs
invariant-pairs l = record {
  count : l.dims + pairs l.self.left.now ≡ pairs l.fn.self.left.now;
  left : without_pairs l.self.left.now ≡ without_pairs l.fn.self.left.now;
  room : l.dims + length l.self.left.now ≤ length l.fn.self.left.now;
}

abbrev pub decreases-pairs : goal.decreases-pairs
decreases-pairs l = length l.self.left.now
