use Rattle.std.proofs.Common.{◌≡◌, ◌<◌, ℕ, []}
use Rattle.clean_base.specs.Lists.{At}
use Rattle.reach_rows.specs.declared.search.Mark.TheVariants.{Unseen}
use Rattle.reach_rows.specs.Search.{IsSearchState}
use Rattle.reach_rows.proofs.search.finished.Given as goal

abbrev pub invariant-loop-node : goal.invariant-loop-node
invariant-loop-node l = record {
  search : IsSearchState l.rows l.search.marks.items l.search.passed.items l.search.path.items l.search.done.items;
  path : l.search.path.items ≡ [];
  seen : (a : ℕ) → a < l.node → At l.search.marks.items a Unseen → ⊥;
}
