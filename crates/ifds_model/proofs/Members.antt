-- Members of lists, and the numbers of sets' members.
use Rattle.std.specs.Prelude.{◌≡◌, ◌≢◌, ◌⊎◌, ◌<◌, ℕ, zero, suc, List, [], ◌∷◌, length, slice_index_or, slice_set, remove, Contains, AllPairs}
use Rattle.std.proofs.Common.{arith, sym, ◌∙◌, ap, subst, inl, inr, refl}
use Rattle.std.proofs.Math.ListN.{length-set}
use Rattle.std.proofs.lemmas.Bool.Decides.{eqb_tells}
use Rattle.std.proofs.lemmas.List.{get_or-set_same, get_or-set_other}
use Rattle.std.proofs.lemmas.List.Edits.{length-remove}
use Rattle.std.proofs.lemmas.List.Sorted.{IsPermutation-remove, IsPermutation-sym, Contains-permutation}
use Rattle.std.proofs.lemmas.List.Elements.{Contains-push, Contains-push_cases}
use Rattle.ifds_model.specs.Runs.{HasCount}
use Rattle.ifds_model.specs.Count.{cons_cases, no_more_than}
use Rattle.ifds_model.specs.State.{At, IsDistinct}

pub any_default : {X : Type 0} (xs : List X) (n : ℕ) (a b : X) → n < length xs → slice_index_or xs n a ≡ slice_index_or xs n b
any_default [] n a b below = absurd (omega arith)
any_default (x ∷ xs) zero a b below = refl
any_default (x ∷ xs) (suc n) a b below = any_default xs n a b (omega arith)

-- a place has one item
pub at_one : {X : Type 0} (xs : List X) (n : ℕ) (x y : X) → At xs n x → At xs n y → x ≡ y
at_one xs n x y a b = sym a.1 ∙ any_default xs n x y a.0 ∙ b.1

order : (i j : ℕ) → (i < j) ⊎ (i ≡ j) ⊎ (j < i)
order zero zero = inr (inl refl)
order zero (suc j) = inl (omega arith)
order (suc i) zero = inr (inr (omega arith))
order (suc i) (suc j) = elim (order i j) [
  | inl less ↦ inl (omega (arith, less))
  | inr other ↦ inr (elim other [ inl same ↦ inl (ap suc same) | inr more ↦ inr (omega (arith, more)) ])
]

-- two members of a list are one, or the one stands before the other
pub one_or_pair : {X : Type 0} (R : X → X → Type 0) (xs : List X) → AllPairs R xs → (a b : X) → Contains xs a → Contains xs b → (a ≡ b) ⊎ R a b ⊎ R b a
one_or_pair R xs pairs a b in_a in_b =
    let there : slice_index_or xs in_b.0 a ≡ b = any_default xs in_b.0 a b in_b.1 ∙ in_b.2 in
    elim (order in_a.0 in_b.0) [
      | inl less ↦ inr (inl (subst (R a) there (subst (λ x. R x (slice_index_or xs in_b.0 a)) in_a.2 (pairs in_a.0 in_b.0 a less in_b.1))))
      | inr other ↦ elim other [
        | inl same ↦ inl (sym in_a.2 ∙ ap (λ (k : ℕ). slice_index_or xs k a) same ∙ there)
        | inr more ↦ inr (inr (subst (R b) in_a.2 (subst (λ x. R x (slice_index_or xs in_a.0 a)) there (pairs in_b.0 in_a.0 a more in_a.1))))
      ]
    ]

-- a set without members has none of them, and one with one member has one
pub empty_count : {X : Type 0} (set : X → Type 0) → ((x : X) → set x → ⊥) → HasCount set 0
empty_count {X} set none =
    let no : List X = [] in
    (no, record { distinct = λ i j d below within. absurd (omega arith); sound = λ x has. absurd (omega (arith, has.1)); whole = λ x is. absurd (none x is) }, refl)

pub one_member : {X : Type 0} (set : X → Type 0) (x : X) → set x → ((y : X) → set y → y ≡ x) → HasCount set 1
one_member set x is only = (
  x ∷ [],
  record {
    distinct = λ i j d below within. absurd (omega arith);
    sound = λ y has. elim (Contains-push_cases [] x y has) [ inl none ↦ absurd (omega (arith, none.1)) | inr same ↦ subst set same is ];
    whole = λ y in_set. subst (λ z. Contains (x ∷ []) z) (sym (only y in_set)) (Contains-push [] x);
  },
  refl,
)

-- sets with the same members have the same number of them
pub same_count : {X : Type 0} (s t : X → Type 0) (n : ℕ) → ((a : X) → s a → t a) → ((a : X) → t a → s a) → HasCount s n → HasCount t n
same_count s t n there back count = (count.0, record { distinct = count.1.distinct; sound = λ a has. there a (count.1.sound a has); whole = λ a has. count.1.whole a (back a has) }, count.2)

pub same_number_or_not : (a b : ℕ) → (a ≡ b) ⊎ (a ≢ b)
same_number_or_not a b = elim (eqb_tells a b) [ inl same ↦ inl same.1 | inr other ↦ inr other.1 ]

module _ {X : Type 0} where
  pub at_set_same : (xs : List X) (i : ℕ) (v : X) → i < length xs → At (slice_set xs i v) i v
  at_set_same xs i v below = (omega (arith, length-set {A = X}), get_or-set_same xs i v v below)

  pub at_set_other : (xs : List X) (i k : ℕ) (v y : X) → k ≢ i → At xs k y → At (slice_set xs i v) k y
  at_set_other xs i k v y other at = (omega (arith, length-set {A = X}, at.0), get_or-set_other xs i k v y other ∙ at.1)

  -- what stands at a place after one place was set
  pub at_set : (xs : List X) (i k : ℕ) (v y : X) → i < length xs → At (slice_set xs i v) k y → ((k ≡ i) × (y ≡ v)) ⊎ ((k ≢ i) × At xs k y)
  at_set xs i k v y below at = elim (same_number_or_not k i) [
    | inl same ↦ inl (same, at_one (slice_set xs i v) i y v (subst (λ (n : ℕ). At (slice_set xs i v) n y) same at) (at_set_same xs i v below))
    | inr other ↦ inr (other, (omega (arith, length-set {A = X}, at.0), sym (get_or-set_other xs i k v y other) ∙ at.1))
  ]

  -- a list's members are the one at a place and those that are left without it
  pub without : (xs : List X) (n : ℕ) (x : X) → At xs n x → (y : X) → Contains xs y → (x ≡ y) ⊎ Contains (remove xs n) y
  without xs n x at y has = cons_cases x (remove xs n) y (Contains-permutation xs (x ∷ remove xs n) y (IsPermutation-remove xs n x at.0 (sym at.1)) has)

  pub removed_was : (xs : List X) (n : ℕ) (x : X) → At xs n x → (y : X) → Contains (remove xs n) y → Contains xs y
  removed_was xs n x at y has = Contains-permutation (x ∷ remove xs n) xs y (IsPermutation-sym xs (x ∷ remove xs n) (IsPermutation-remove xs n x at.0 (sym at.1))) (suc has.0, omega (arith, has.1), has.2)

  -- in a list without repeats it isn't among them
  pub removed_apart : (xs : List X) → IsDistinct xs → (n : ℕ) (x : X) → At xs n x → Contains (remove xs n) x → ⊥
  removed_apart xs distinct n x at has =
      let fewer = no_more_than xs (remove xs n) distinct (λ y in_xs. elim (without xs n x at y in_xs) [
        | inl same ↦ subst (λ (z : X). Contains (remove xs n) z) same has
        | inr there ↦ there
      ]) in
      omega (arith, fewer, length-remove xs n at.0, at.0)
