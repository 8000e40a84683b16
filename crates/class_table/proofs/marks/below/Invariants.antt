use Rattle.std.proofs.Common.{◌≡◌, length}
use Rattle.class_table.proofs.Marked.{AreMarkedTo}
use Rattle.class_table.proofs.marks.below.Given as goal

abbrev pub invariant-loop-next : goal.invariant-loop-next
invariant-loop-next l = record {
  count : length l.marks.items ≡ length l.rows;
  marked : AreMarkedTo l.rows l.order l.node l.next-index l.marks.items;
}
