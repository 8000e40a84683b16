use Rattle.reach_rows.specs.Search.{IsSearchState, to_do, KeepsSeen}
use Rattle.reach_rows.proofs.search.Search.finish.Given as goal

abbrev pub invariant-loop-node : goal.invariant-loop-node
invariant-loop-node l = IsSearchState l.rows l.self.marks.items l.self.passed.items l.self.path.items l.self.done.items × KeepsSeen l.fn.self.marks.items l.self.marks.items

abbrev pub decreases-loop-node : goal.decreases-loop-node
decreases-loop-node l = to_do l.self.marks.items
