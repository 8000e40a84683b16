-- A sorted list without its repeats.
use Rattle.std.specs.Prelude.{◌≡◌, ◌↔◌, zero, suc, Bool, true, List, [], ◌∷◌, Contains}
use Rattle.std.proofs.Common.{Ordering, arith, sym, subst}
use Rattle.std.specs.declared.cmp.Ordering.TheVariants.{Less, Equal, Greater}
use Rattle.std.specs.Cmp.{IsTotalOrder, IsEquivalence}
use Rattle.std.specs.List.{dedup}
use Rattle.std.specs.List.Retain.{IsFiltered, DiffersFromLast}
use Rattle.std.specs.List.Sorted.{IsSorted, IsPermutation, IsStrictlySortedBy}
use Rattle.std.specs.Ordering.{eq_by_cmp, ordering_reverse}
use Rattle.std.proofs.lemmas.List.Filters.{dedup_is}
use Rattle.std.proofs.lemmas.List.Kept.{Contains-dedup, Contains-from_dedup, IsStrictlySortedBy-dedup}
use Rattle.std.proofs.lemmas.List.Sorted.{Contains-permutation, IsPermutation-sym}
use Rattle.std.proofs.lemmas.Map.Keys.{sorted_tail}
use Rattle.std.proofs.lemmas.Map.Views.{All-after_first}
use Rattle.ifds_model.specs.State.{IsDistinct}

module _ {X : Type 0} (R : X → X → Ordering) (order : IsTotalOrder R) where
  never_less : (o : Ordering) → o ≡ ordering_reverse o → o ≡ Less → ⊥
  never_less Less is less = cc (is)
  never_less Equal is less = cc (less)
  never_less Greater is less = cc (less)

  pub apart : (ks : List X) → IsStrictlySortedBy R ks → IsDistinct ks
  apart [] s i j d below within same = omega (arith, within)
  apart (k ∷ ks) s zero zero d below within same = omega (arith, below)
  apart (k ∷ ks) s (suc i) zero d below within same = omega (arith, below)
  apart (k ∷ ks) s zero (suc j) d below within same = never_less (R k k) (order.antisymm k k) (subst (λ (x : X). R k x ≡ Less) (sym same) (All-after_first R k ks s j d (omega (arith, within))))
  apart (k ∷ ks) s (suc i) (suc j) d below within same = apart ks (sorted_tail R k ks s) i j d (omega (arith, below)) (omega (arith, within)) same

  module _ (E : X → X → Bool) (ties : (x y : X) → E x y ≡ eq_by_cmp R x y) (laws : IsEquivalence E) (exact : (x y : X) → E x y ≡ true → x ≡ y) (items sorted once : List X)
      (permuted : IsPermutation items sorted) (rises : IsSorted R sorted) (kept : IsFiltered (DiffersFromLast E) [] sorted once) where
    once_is : once ≡ dedup E sorted
    once_is = dedup_is E sorted once kept

    pub once_sorted : IsStrictlySortedBy R once
    once_sorted = subst (IsStrictlySortedBy R) (sym once_is) (IsStrictlySortedBy-dedup order ties sorted rises)

    pub once_distinct : IsDistinct once
    once_distinct = apart once once_sorted

    pub once_same : (x : X) → Contains once x ↔ Contains items x
    once_same x = (
      λ has. Contains-permutation sorted items x (IsPermutation-sym items sorted permuted) (Contains-from_dedup E sorted x (subst (λ (xs : List X). Contains xs x) once_is has)),
      λ has. subst (λ (xs : List X). Contains xs x) (sym once_is) (Contains-dedup laws exact sorted x (Contains-permutation items sorted x permuted has)),
    )
