use Rattle.std.proofs.Common.{take}
use Rattle.reach_rows.specs.Cycles.{IsAdded}
use Rattle.reach_rows.proofs.cycle.Flood.add_row.Given as goal

abbrev pub invariant-loop-node : goal.invariant-loop-node
invariant-loop-node l = IsAdded (take l.node-index l.row) l.fn.self.seen.items l.fn.self.waiting.items l.self.seen.items l.self.waiting.items
