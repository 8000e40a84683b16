use Rattle.std.proofs.Common.{◌≡◌, ℕ, List, Contains, subst, sym}
use Rattle.std.proofs.lemmas.List.Filters.{dedup_is}
use Rattle.std.proofs.lemmas.List.Kept.{Contains-dedup_nat, Contains-from_dedup}
use Rattle.std.proofs.lemmas.List.Sorted.{Contains-permutation, IsPermutation-sym}
use Rattle.std.proofs.lemmas.Map.Keys.{IsStrictlyIncreasing-dedup}
use Rattle.statement_graph.proofs.successors.Places.sort.Goals as goal

pub returns-clause-sorted : goal.returns-clause-sorted
returns-clause-sorted c = rw (dedup_is _ _ _ c.dedup.ensures.filtered) (IsStrictlyIncreasing-dedup _ c.sort_unstable.ensures.sorted)

pub returns-clause-same : goal.returns-clause-same
returns-clause-same c t =
    let is = dedup_is _ _ _ c.dedup.ensures.filtered in
    let moved = c.sort_unstable.ensures.permutation in
    let was : c.self.inside.items.items ≡ c.args.self.now = c.self.view_is in (
      λ h. subst (λ (xs : List ℕ). Contains xs t) was (Contains-permutation _ _ t (IsPermutation-sym _ _ moved) (Contains-from_dedup _ _ t (rw is at h))),
      λ h. rw is (Contains-dedup_nat _ t (Contains-permutation _ _ t moved (subst (λ (xs : List ℕ). Contains xs t) (sym was) h))),
    )
