use Rattle.std.proofs.Common.{take}
use Rattle.std.specs.Prelude.{Contains}
use Rattle.class_table.specs.Marks.{Spreads}
use Rattle.class_table.proofs.marks.mark_all.Given as goal

abbrev pub invariant-loop-node : goal.invariant-loop-node
invariant-loop-node l = Spreads (Contains (take l.node-index l.nodes)) l.fn.marks l.marks
