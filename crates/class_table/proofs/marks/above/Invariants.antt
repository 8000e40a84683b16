use Rattle.class_table.proofs.Marked.{IsSpread}
use Rattle.class_table.proofs.marks.above.Given as goal

abbrev pub invariant-loop-passed : goal.invariant-loop-passed
invariant-loop-passed l = IsSpread l.rows l.order l.node l.passed l.marks.items
