-- Graphs as rows: the row of a node lists the nodes to which one step leads from it.
use Rattle.std.specs.Prelude.{◌↔◌, ◌<◌, ℕ, List, [], length, slice_index_or, All, Contains}
use Rattle.clean_base.specs.Lists.{At, IsDistinct}
use Rattle.reach_rows.specs.Reaches.{Follows}

abbrev pub row : List (List ℕ) → ℕ → List ℕ
row rows a = slice_index_or rows a []

abbrev pub Steps : List (List ℕ) → ℕ → ℕ → Type 0
Steps rows a b = Contains (row rows a) b

-- each node that a row lists has a row
abbrev pub IsGraph : List (List ℕ) → Type 0
IsGraph rows = All (λ (ns : List ℕ). All (λ b. b < length rows) ns) rows

-- all nodes, each once and behind those to which one step leads from it
pub record IsOrder (rows : List (List ℕ)) (order : List ℕ) : Type 0 where
  pub all : (a : ℕ) → Contains order a ↔ (a < length rows)
  pub distinct : IsDistinct order
  pub behind : (i j a b : ℕ) → At order i a → At order j b → Steps rows a b → j < i

-- the node is reached from itself by one or more steps
abbrev pub IsOnCycle : List (List ℕ) → ℕ → Type 0
IsOnCycle rows a = Follows (Steps rows) a a

-- and none before it is
pub record IsFirstOnCycle (rows : List (List ℕ)) (a : ℕ) : Type 0 where
  pub on : IsOnCycle rows a
  pub first : (b : ℕ) → b < a → IsOnCycle rows b → ⊥
