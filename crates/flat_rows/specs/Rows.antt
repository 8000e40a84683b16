-- Rows that are kept in one list of items.
use Rattle.std.specs.Prelude.{◌≡◌, ◌≤◌, ◌-◌, ◌++◌, ◌∷◌, [], ℕ, List, length, slice_index_or, take, drop}

-- the last of the rows has these items more
abbrev pub AddsToLast : {X : Type 0} → List (List X) → List X → List (List X) → Type 0
AddsToLast {X} old items new = (before : List (List X)) × (last : List X) × (old ≡ before ++ last ∷ []) × (new ≡ before ++ (last ++ items) ∷ [])

-- The public contracts don't cite what follows: it is how rows are kept.

-- the rows that begin at these places of the items
abbrev pub rows_at : {X : Type 0} → List ℕ → List X → List (List X)
rows_at [] items = []
rows_at (start ∷ starts) items = take (slice_index_or starts 0 (length items) - start) (drop start items) ∷ rows_at starts items

-- no row begins behind the next one, nor behind the items, of which there are so many
abbrev pub AreStarts : List ℕ → ℕ → Type 0
AreStarts [] count = Unit {0}
AreStarts (start ∷ starts) count = (start ≤ slice_index_or starts 0 count) × AreStarts starts count
