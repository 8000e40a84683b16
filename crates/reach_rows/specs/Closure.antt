-- Which nodes of a graph are reached from which, as contracts see it.
use Rattle.std.specs.Prelude.{◌≡◌, ◌↔◌, ◌<◌, ℕ, Bool, false, List, [], length, slice_index_or, IsTrue}
use Rattle.reach_rows.specs.Graphs.{Steps}
use Rattle.reach_rows.specs.Reaches.{Reaches}

-- the row of a node tells of each node whether it is reached from there
pub record Closure : Type 0 where
  pub count : ℕ
  pub rows : List (List Bool)

abbrev pub has : Closure → ℕ → ℕ → Bool
has closure a b = slice_index_or (slice_index_or closure.rows a []) b false

-- it tells what is reached from each node of the graph
pub record IsClosure (rows : List (List ℕ)) (closure : Closure) : Type 0 where
  pub count : closure.count ≡ length rows
  pub has : (a b : ℕ) → a < length rows → b < length rows → IsTrue (has closure a b) ↔ Reaches (Steps rows) a b
