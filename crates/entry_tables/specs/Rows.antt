-- Lists of entries, as contracts see them.
use Rattle.std.specs.Prelude.{◌≡◌, ℕ, List, length, map}

-- one list of entries
pub record Row (T : Type 0) : Type 0 where
  -- in the order of adding, each once
  pub items : List T
  -- how many more it has room for
  pub spare : ℕ

-- numbered lists of entries
pub record Rows (T : Type 0) : Type 0 where
  pub lists : List (List T)
  -- for each list, how many more entries it has room for
  pub rooms : List ℕ

-- each list has its room
abbrev pub IsEven : {T : Type 0} → Rows T → Type 0
IsEven rows = length rows.rooms ≡ length rows.lists

abbrev pub lists_of : {T : Type 0} → List (Row T) → List (List T)
lists_of rows = map (λ r. r.items) rows

abbrev pub rooms_of : {T : Type 0} → List (Row T) → List ℕ
rooms_of rows = map (λ r. r.spare) rows
