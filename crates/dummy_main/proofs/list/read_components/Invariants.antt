use Rattle.std.proofs.Common.{◌+◌, ◌≤◌, length, map}
use Rattle.list_lines.specs.Lines.{list_lines, trimmed}
use Rattle.list_lines.proofs.Faults.{ReadTo}
use Rattle.dummy_main.specs.Listing.{AreListed}
use Rattle.dummy_main.specs.ReadingList.{IsIndexed}
use Rattle.dummy_main.proofs.list.read_components.Given as goal

-- the lines so far are a list of the components so far
abbrev pub invariant-loop-line : goal.invariant-loop-line
invariant-loop-line l = record {
  can : goal.iterator-loop-line.can_next l.line-iterator;
  finite : goal.iterator-loop-line.is_finite l.line-iterator;
  indexed : IsIndexed l.listed;
  read : ReadTo AreListed (list_lines l.fn.bytes) (map trimmed l.line-iterator) l.listed.components.items l.number;
  left : l.number + length l.line-iterator ≤ length l.fn.bytes;
}
