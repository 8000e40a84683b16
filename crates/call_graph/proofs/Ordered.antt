-- A sorted list without its repeats.
use Rattle.std.specs.Prelude.{◌≡◌, ◌↔◌, Bool, true, List, [], Contains}
use Rattle.std.proofs.Common.{Ordering, sym, subst}
use Rattle.std.specs.Cmp.{IsTotalOrder, IsEquivalence}
use Rattle.std.specs.List.{dedup}
use Rattle.std.specs.List.Retain.{IsFiltered, DiffersFromLast}
use Rattle.std.specs.List.Sorted.{IsSorted, IsPermutation, IsStrictlySortedBy}
use Rattle.std.specs.Ordering.{eq_by_cmp}
use Rattle.std.proofs.lemmas.List.Filters.{dedup_is}
use Rattle.std.proofs.lemmas.List.Kept.{Contains-dedup, Contains-from_dedup, IsStrictlySortedBy-dedup}
use Rattle.std.proofs.lemmas.List.Sorted.{Contains-permutation, IsPermutation-sym}

module _ {X : Type 0} (R : X → X → Ordering) (order : IsTotalOrder R) (E : X → X → Bool) (ties : (x y : X) → E x y ≡ eq_by_cmp R x y) (laws : IsEquivalence E) (exact : (x y : X) → E x y ≡ true → x ≡ y)
    (items sorted once : List X) (permuted : IsPermutation items sorted) (rises : IsSorted R sorted) (kept : IsFiltered (DiffersFromLast E) [] sorted once) where
  once_is : once ≡ dedup E sorted
  once_is = dedup_is E sorted once kept

  pub once_sorted : IsStrictlySortedBy R once
  once_sorted = subst (IsStrictlySortedBy R) (sym once_is) (IsStrictlySortedBy-dedup order ties sorted rises)

  pub once_same : (x : X) → Contains once x ↔ Contains items x
  once_same x = (
    λ has. Contains-permutation sorted items x (IsPermutation-sym items sorted permuted) (Contains-from_dedup E sorted x (subst (λ (xs : List X). Contains xs x) once_is has)),
    λ has. subst (λ (xs : List X). Contains xs x) (sym once_is) (Contains-dedup laws exact sorted x (Contains-permutation items sorted x permuted has)),
  )
