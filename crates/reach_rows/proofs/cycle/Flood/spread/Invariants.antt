use Rattle.reach_rows.specs.Cycles.{IsFlood, left_of}
use Rattle.reach_rows.proofs.cycle.Flood.spread.Given as goal

abbrev pub invariant-loop-next : goal.invariant-loop-next
invariant-loop-next l = IsFlood l.rows l.node l.fn.self.seen.items l.self.seen.items l.self.waiting.items

abbrev pub decreases-loop-next : goal.decreases-loop-next
decreases-loop-next l = left_of l.self.seen.items l.self.waiting.items
