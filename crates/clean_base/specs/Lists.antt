-- Items of lists by their place, and lists that stand for sets.
use Rattle.std.specs.Prelude.{◌≡◌, ◌≢◌, ◌<◌, ◌++◌, ◌↔◌, ℕ, List, length, slice_index_or, AllPairs, Contains}

-- the item stands at this place of the list
abbrev pub At : {X : Type 0} → List X → ℕ → X → Type 0
At xs n x = (n < length xs) × (slice_index_or xs n x ≡ x)

-- no item stands in the list twice
abbrev pub IsDistinct : {X : Type 0} → List X → Type 0
IsDistinct xs = AllPairs (λ x y. x ≢ y) xs

-- new is old with items behind it that are exactly those of the set
abbrev pub AppendsSet : {X : Type 0} → (X → Type 0) → List X → List X → Type 0
AppendsSet {X} set old new = (added : List X) × (new ≡ old ++ added) × ((x : X) → Contains added x ↔ set x)
