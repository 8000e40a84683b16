use Rattle.std.proofs.Common.{ℕ, ◌<◌, ◌≤◌, get_or}
use Rattle.clean_base.specs.Lists.{At}
use Rattle.reach_rows.specs.declared.search.Mark.TheVariants.{Unseen}
use Rattle.reach_rows.proofs.search.Search.first_unseen.Given as goal

abbrev pub invariant-loop-at : goal.invariant-loop-at
invariant-loop-at l = (k : ℕ) → l.from ≤ k → k < l.at → At l.self.marks.items (get_or l.row k 0) Unseen → ⊥
