-- Entries of numbered lists, seen with the contexts of their numbers.
use Rattle.std.specs.Prelude.{◌≡◌, ◌≢◌, ◌⊎◌, ◌↔◌, ◌<◌, ℕ, zero, suc, List, [], ◌∷◌, ◌++◌, length, map, slice_index_or, slice_set, Contains}
use Rattle.std.proofs.Common.{arith, sym, ◌∙◌, ap, subst, inl, inr, refl}
use Rattle.std.proofs.lemmas.List.{get_or-set_same, get_or-set_other, get_or-map, length-map}
use Rattle.std.proofs.lemmas.List.Elements.{Contains-push, Contains-push_cases, Contains-append_left, Contains-append_right, Contains-append_cases}
use Rattle.entry_tables.specs.Lists.{list_at}
use Rattle.ifds_model.specs.State.{At, IsDistinct}
use Rattle.ifds_model.proofs.Members.{same_number_or_not, any_default}
use Rattle.solver_core.specs.Numbers.{spread}
use Rattle.solver_core.proofs.Numbered.{in_map, from_map}

some_at : {X : Type 0} (xs : List X) (k : ℕ) → k < length xs → (x : X) × At xs k x
some_at [] k below = absurd (omega (arith, below))
some_at (x ∷ xs) zero below = (x, (below, refl))
some_at (x ∷ xs) (suc k) below = let rest = some_at xs k (omega (arith, below)) in (rest.0, (below, rest.1.1))

module _ {K X Y : Type 0} (f : K → X → Y) where
  -- an entry of the list with a key's number
  pub in_spread : (ks : List K) (rows : List (List X)) (n : ℕ) (k : K) (x : X) → At ks n k → Contains (list_at rows n) x → Contains (spread f ks rows) (f k x)
  in_spread [] rows n k x at has = absurd (omega (arith, at.0))
  in_spread (c ∷ ks) [] n k x at has = absurd (omega (arith, has.1))
  in_spread (c ∷ ks) (row ∷ rows) zero k x at has = subst (λ (d : K). Contains (map (f c) row ++ spread f ks rows) (f d x)) at.1 (Contains-append_left (map (f c) row) (spread f ks rows) (f c x) (in_map (f c) row x has))
  in_spread (c ∷ ks) (row ∷ rows) (suc n) k x at has = Contains-append_right (map (f c) row) (spread f ks rows) (f k x) (in_spread ks rows n k x (omega (arith, at.0), at.1) has)

  pub record IsFrom (ks : List K) (rows : List (List X)) (y : Y) : Type 0 where
    pub number : ℕ
    pub key : K
    pub entry : X
    pub at : At ks number key
    pub has : Contains (list_at rows number) entry
    pub is : y ≡ f key entry

  pub from_spread : (ks : List K) (rows : List (List X)) (y : Y) → Contains (spread f ks rows) y → IsFrom ks rows y
  from_spread [] rows y has = absurd (omega (arith, has.1))
  from_spread (c ∷ ks) [] y has = absurd (omega (arith, has.1))
  from_spread (c ∷ ks) (row ∷ rows) y has = elim (Contains-append_cases (map (f c) row) (spread f ks rows) y has) [
    | inl first ↦ let x = from_map (f c) row y first in record { number = 0; key = c; entry = x.0; at = (omega arith, refl); has = x.1; is = x.2 }
    | inr later ↦ let rest = from_spread ks rows y later in record { number = suc rest.number; key = rest.key; entry = rest.entry; at = (omega (arith, rest.at.0), rest.at.1); has = rest.has; is = rest.is }
  ]

  -- an entry more in the list with this number
  module _ (ks : List K) (rows now : List (List X)) (n : ℕ) (k : K) (x : X) (at : At ks n k) (long : length rows ≡ length ks) (set : now ≡ slice_set rows n (list_at rows n ++ x ∷ [])) where
    below : n < length rows
    below = omega (arith, at.0, long)

    key_at : (d : K) → slice_index_or ks n d ≡ k
    key_at d = any_default ks n d k at.0 ∙ at.1

    row_now : list_at now n ≡ list_at rows n ++ x ∷ []
    row_now = ap (λ (rs : List (List X)). list_at rs n) set ∙ get_or-set_same rows n (list_at rows n ++ x ∷ []) [] below

    other_row : (m : ℕ) → m ≢ n → m < length rows → list_at now m ≡ list_at rows m
    other_row m other within = ap (λ (rs : List (List X)). list_at rs m) set ∙ get_or-set_other rows n m (list_at rows n ++ x ∷ []) [] other

    pub row_from : (m : ℕ) (z : X) → Contains (list_at now m) z → m < length rows → Contains (list_at rows m) z ⊎ ((m ≡ n) × (z ≡ x))
    row_from m z has within = elim (same_number_or_not m n) [
      | inr other ↦ inl (subst (λ (r : List X). Contains r z) (other_row m other within) has)
      | inl same ↦ elim (Contains-push_cases (list_at rows n) x z (subst (λ (r : List X). Contains r z) row_now (subst (λ (i : ℕ). Contains (list_at now i) z) same has))) [
        | inl was ↦ inl (subst (λ (i : ℕ). Contains (list_at rows i) z) (sym same) was)
        | inr is ↦ inr (same, sym is)
      ]
    ]

    row_kept : (m : ℕ) (z : X) → Contains (list_at rows m) z → m < length rows → Contains (list_at now m) z
    row_kept m z has within = elim (same_number_or_not m n) [
      | inr other ↦ subst (λ (r : List X). Contains r z) (sym (other_row m other within)) has
      | inl same ↦ subst (λ (i : ℕ). Contains (list_at now i) z) (sym same) (subst (λ (r : List X). Contains r z) (sym row_now) (Contains-append_left (list_at rows n) (x ∷ []) z (subst (λ (i : ℕ). Contains (list_at rows i) z) same has)))
    ]

    pub spread_set : (y : Y) → Contains (spread f ks now) y ↔ (Contains (spread f ks rows) y ⊎ (y ≡ f k x))
    spread_set y = (
      λ has.
          let from = from_spread ks now y has in
          elim (row_from from.number from.entry from.has (omega (arith, from.at.0, long))) [
            | inl was ↦ inl (subst (λ (z : Y). Contains (spread f ks rows) z) (sym from.is) (in_spread ks rows from.number from.key from.entry from.at was))
            | inr same ↦ inr (from.is ∙ ap (λ (c : K). f c from.entry) (sym from.at.1 ∙ ap (λ (i : ℕ). slice_index_or ks i from.key) same.0 ∙ key_at from.key) ∙ ap (f k) same.1)
          ],
      λ is. elim is [
        | inl was ↦ let from = from_spread ks rows y was in subst (λ (z : Y). Contains (spread f ks now) z) (sym from.is) (in_spread ks now from.number from.key from.entry from.at (row_kept from.number from.entry from.has (omega (arith, from.at.0, long))))
        | inr same ↦ subst (λ (z : Y). Contains (spread f ks now) z) (sym same) (in_spread ks now n k x at (subst (λ (r : List X). Contains r x) (sym row_now) (Contains-push (list_at rows n) x)))
      ],
    )

-- a list without repeats, seen by a function that tells its members apart
pub map_distinct : {X Y : Type 0} (f : X → Y) (xs : List X) → IsDistinct xs → ((x y : X) → Contains xs x → Contains xs y → f x ≡ f y → x ≡ y) → IsDistinct (map f xs)
map_distinct {X} {Y} f xs distinct one i j d less within same =
    let long : j < length xs = omega (arith, within, length-map xs f) in
    let first = some_at xs i (omega (arith, less, long)) in
    let second = some_at xs j long in
    let left : slice_index_or (map f xs) i d ≡ f first.0 = get_or-map f xs i first.0 d (omega (arith, less, long)) ∙ ap f first.1.1 in
    let right : slice_index_or (map f xs) j d ≡ f second.0 = get_or-map f xs j second.0 d long ∙ ap f second.1.1 in
    let is : first.0 ≡ second.0 = one first.0 second.0 (i, first.1.0, first.1.1) (j, second.1.0, second.1.1) (sym left ∙ same ∙ right) in
    distinct i j first.0 less long (first.1.1 ∙ is ∙ sym second.1.1 ∙ any_default xs j second.0 first.0 long)
