-- The graph whose steps lead the other way.
use Rattle.std.specs.Prelude.{◌≡◌, ◌⊎◌, ◌↔◌, ℕ, List, length, Contains}
use Rattle.reach_rows.specs.Graphs.{row, Steps}

pub record IsBackward (rows backs : List (List ℕ)) : Type 0 where
  pub count : length backs ≡ length rows
  pub steps : (a b : ℕ) → Steps backs b a ↔ Steps rows a b

-- a node is added to the rows of these others
pub record AddsTo (others : List ℕ) (node : ℕ) (old new : List (List ℕ)) : Type 0 where
  pub count : length new ≡ length old
  pub each : (b a : ℕ) → Contains (row new b) a ↔ (Contains (row old b) a ⊎ (Contains others b × (node ≡ a)))
