use Rattle.std.proofs.Common.{take}
use Rattle.reach_rows.specs.Backward.{AddsTo}
use Rattle.reach_rows.proofs.backward.add_to.Given as goal

abbrev pub invariant-loop-other : goal.invariant-loop-other
invariant-loop-other l = AddsTo (take l.other-index l.others) l.node l.fn.rows l.rows
