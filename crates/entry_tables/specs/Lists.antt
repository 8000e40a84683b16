-- Lists of lists, and room, over plain lists.
use Rattle.std.specs.Prelude.{◌≢◌, ◌≤◌, ◌+◌, ℕ, List, [], slice_index, slice_index_or}

-- the list with this number
abbrev pub list_at : {X : Type 0} → List (List X) → ℕ → List X
list_at lists n = slice_index_or lists n []

-- no room is less than it was
abbrev pub KeepsRoom : List ℕ → List ℕ → Type 0
KeepsRoom old new = (k : ℕ) → slice_index old k ≤ slice_index new k

-- the room with this number is less by at most one, and no other room is less
abbrev pub UsesRoomAt : ℕ → List ℕ → List ℕ → Type 0
UsesRoomAt n old new = (slice_index old n ≤ slice_index new n + 1) × ((k : ℕ) → k ≢ n → slice_index old k ≤ slice_index new k)
