-- Items by their place, and what the row at a place has.
use Rattle.std.proofs.Common.{◌⊎◌, ◌↔◌, ◌<◌, ◌≤◌, ℕ, List, [], Contains, length, get_or, sym, ◌∙◌, subst, inl, inr, arith}
use Rattle.std.proofs.lemmas.List.{get_or_default, get_or_past}
use Rattle.clean_base.specs.Lists.{At}

ways : (a b : ℕ) → (a < b) ⊎ (b ≤ a)
ways a b = grind arith

no_item : {X : Type 0} (x : X) → Contains [] x → ⊥
no_item x (k, below, is) = absurd (omega (arith, below))

pub item_at : {X : Type 0} (xs : List X) (n : ℕ) (d : X) → n < length xs → At xs n (get_or xs n d)
item_at xs n d below = (below, get_or_default xs n (get_or xs n d) d below)

-- a row that has an item is one of them
pub row_within : {X : Type 0} (rows : List (List X)) (n : ℕ) (x : X) → Contains (get_or rows n []) x → n < length rows
row_within {X} rows n x has = elim (ways n (length rows)) [
  | inl below ↦ below
  | inr past ↦ absurd (no_item x (subst (λ (xs : List X). Contains xs x) (get_or_past rows n [] past) has))
]

pub row_has : {X : Type 0} (rows : List (List X)) (n : ℕ) (x : X) → Contains (get_or rows n []) x ↔ ((xs : List X) × At rows n xs × Contains xs x)
row_has {X} rows n x = (
  (λ has. (get_or rows n [], item_at rows n [] (row_within rows n x has), has)),
  (λ is. subst (λ (xs : List X). Contains xs x) (sym is.1.1 ∙ get_or_default rows n is.0 [] is.1.0) is.2),
)
