use Rattle.std.proofs.Common.{◌+◌, ◌≤◌, length, map}
use Rattle.list_lines.specs.Lines.{list_lines, trimmed}
use Rattle.list_lines.specs.Lists.{Give}
use Rattle.list_lines.proofs.Faults.{ReadTo}
use Rattle.event_schedule.specs.Schedules.{Gives}
use Rattle.event_schedule.proofs.schedule.read_schedule.Given as goal

-- the lines so far give what was read so far
abbrev pub invariant-loop-line : goal.invariant-loop-line
invariant-loop-line l = record {
  can : goal.iterator-loop-line.can_next l.line-iterator;
  finite : goal.iterator-loop-line.is_finite l.line-iterator;
  read : ReadTo (Give Gives) (list_lines l.fn.bytes) (map trimmed l.line-iterator) l.orders.items l.number;
  left : l.number + length l.line-iterator ≤ length l.fn.bytes;
}
