-- Items of lists by their place.
use Rattle.std.proofs.Common.{◌≡◌, ◌≢◌, ℕ, ◌+◌, ◌<◌, List, [], ◌∷◌, ◌++◌, length, get_or, set, sym, subst, ◌∙◌, refl, arith, inl, inr, ◌⊎◌}
use Rattle.std.proofs.lemmas.List.{length-set, length_push, get_or-set_same, get_or-set_other, get_or_default, get_or_append_left, get_or_push}
use Rattle.std.proofs.lemmas.Bool.Decides.{eqb_tells}
use Rattle.std.specs.Prelude.{Contains, AllPairs}
use Rattle.std.proofs.lemmas.List.Elements.{Contains-get_or}
use Rattle.std.proofs.lemmas.List.Quantifiers.{all_pairs_push}
use Rattle.clean_base.specs.Lists.{At, IsDistinct}

pub same_number_or_not : (a b : ℕ) → (a ≡ b) ⊎ (a ≢ b)
same_number_or_not a b = elim (eqb_tells a b) [ inl same ↦ inl same.1 | inr other ↦ inr other.1 ]

pub at_one : {X : Type 0} (xs : List X) (n : ℕ) (x y : X) → At xs n x → At xs n y → x ≡ y
at_one xs n x y one other = sym one.1 ∙ get_or_default xs n x y one.0 ∙ other.1

pub at_set_same : {X : Type 0} (xs : List X) (n : ℕ) (x : X) → n < length xs → At (set xs n x) n x
at_set_same xs n x below = (let long : length (set xs n x) ≡ length xs = length-set xs n x in omega arith, get_or-set_same xs n x x below)

pub at_set_other : {X : Type 0} (xs : List X) (n : ℕ) (v : X) (k : ℕ) (x : X) → k ≢ n → At xs k x → At (set xs n v) k x
at_set_other xs n v k x other at = (let long : length (set xs n v) ≡ length xs = length-set xs n v in let below : k < length xs = at.0 in omega arith, get_or-set_other xs n k v x other ∙ at.1)

pub at_of_set : {X : Type 0} (xs : List X) (n : ℕ) (v : X) (k : ℕ) (x : X) → At (set xs n v) k x → k ≢ n → At xs k x
at_of_set xs n v k x at other = (let long : length (set xs n v) ≡ length xs = length-set xs n v in let below : k < length (set xs n v) = at.0 in omega arith, sym (get_or-set_other xs n k v x other) ∙ at.1)

-- a place whose new item is another one was not written
pub other_of_set : {X : Type 0} (xs : List X) (n : ℕ) (v : X) (k : ℕ) (x : X) → n < length xs → (v ≡ x → ⊥) → At (set xs n v) k x → k ≢ n
other_of_set xs n v k x below differ at same = differ (at_one (set xs n v) n v x (at_set_same xs n v below) (subst (λ (m : ℕ). At (set xs n v) m x) same at))

pub at_push : {X : Type 0} (xs : List X) (y : X) (n : ℕ) (x : X) → At xs n x → At (xs ++ y ∷ []) n x
at_push xs y n x at = (let long : length (xs ++ y ∷ []) ≡ length xs + 1 = length_push xs y in let below : n < length xs = at.0 in omega arith, get_or_append_left xs (y ∷ []) x n at.0 ∙ at.1)

pub at_pushed : {X : Type 0} (xs : List X) (y : X) → At (xs ++ y ∷ []) (length xs) y
at_pushed xs y = (let long : length (xs ++ y ∷ []) ≡ length xs + 1 = length_push xs y in omega arith, get_or_push xs y y (length xs) refl)

pub at_push_cases : {X : Type 0} (xs : List X) (y : X) (n : ℕ) (x : X) → At (xs ++ y ∷ []) n x → At xs n x ⊎ ((n ≡ length xs) × (y ≡ x))
at_push_cases {X} xs y n x at = elim (same_number_or_not n (length xs)) [
  | inl last ↦ inr (last, sym (get_or_push xs y x n (sym last)) ∙ at.1)
  | inr other ↦ inl (within other, sym (get_or_append_left xs (y ∷ []) x n (within other)) ∙ at.1)
]
  where
    within : n ≢ length xs → n < length xs
    within other = let long : length (xs ++ y ∷ []) ≡ length xs + 1 = length_push xs y in let below : n < length (xs ++ y ∷ []) = at.0 in omega arith

-- an item stands at one place of a list without repeats
pub place_one : {X : Type 0} (xs : List X) (i j : ℕ) (x : X) → IsDistinct xs → At xs i x → At xs j x → i < j → ⊥
place_one xs i j x distinct one other less = distinct i j x less other.0 (one.1 ∙ sym other.1)

-- a list without repeats stays so with one more item that it lacks
pub distinct_push : {X : Type 0} (xs : List X) (y : X) → IsDistinct xs → (Contains xs y → ⊥) → IsDistinct (xs ++ y ∷ [])
distinct_push xs y distinct lacks =
    all_pairs_push (λ a b. a ≢ b) xs y distinct (λ k d below same. lacks (subst (Contains xs) same (Contains-get_or xs k d below)))

-- and its front lacks its last item
pub front_lacks : {X : Type 0} (xs : List X) (y : X) → IsDistinct (xs ++ y ∷ []) → Contains xs y → ⊥
front_lacks xs y distinct there = place_one (xs ++ y ∷ []) there.0 (length xs) y distinct (at_push xs y there.0 y (there.1, there.2)) (at_pushed xs y) there.1

-- what relates all pairs of a list relates those of its front
pub pairs_front : {X : Type 0} (R : X → X → Type 0) (xs : List X) (y : X) → AllPairs R (xs ++ y ∷ []) → AllPairs R xs
pairs_front R xs y pairs i j d less below =
    let long : length (xs ++ y ∷ []) ≡ length xs + 1 = length_push xs y in
    subst (λ a. R a (get_or xs j d)) (get_or_append_left xs (y ∷ []) d i (omega arith)) (subst (R (get_or (xs ++ y ∷ []) i d)) (get_or_append_left xs (y ∷ []) d j below) (pairs i j d less (omega arith)))

-- and relates each item of its front to its last one
pub pairs_last : {X : Type 0} (R : X → X → Type 0) (xs : List X) (y x : X) → AllPairs R (xs ++ y ∷ []) → Contains xs x → R x y
pairs_last R xs y x pairs there =
    let first = at_push xs y there.0 x (there.1, there.2) in
    let last = at_pushed xs y in
    let at_x : get_or (xs ++ y ∷ []) there.0 x ≡ x = first.1 in
    let at_y : get_or (xs ++ y ∷ []) (length xs) x ≡ y = get_or_default (xs ++ y ∷ []) (length xs) x y last.0 ∙ last.1 in
    subst (λ a. R a y) at_x (subst (R (get_or (xs ++ y ∷ []) there.0 x)) at_y (pairs there.0 (length xs) x there.1 last.0))
