-- Graphs as rows, where the row of a node lists the nodes to which it leads, and the same the other way.
use Rattle.std.specs.Prelude.{◌≡◌, ◌<◌, ◌↔◌, ℕ, List, [], length, slice_index_or, All, Contains}
use Rattle.std.specs.List.Sorted.{IsStrictlyIncreasing}

abbrev pub row : List (List ℕ) → ℕ → List ℕ
row rows p = slice_index_or rows p []

-- each node to which one leads has a row
abbrev pub IsGraph : List (List ℕ) → Type 0
IsGraph rows = All (λ (qs : List ℕ). All (λ q. q < length rows) qs) rows

-- the row of each node lists the nodes that lead to it, in order and each once
pub record IsConverse (rows back : List (List ℕ)) : Type 0 where
  pub count : length back ≡ length rows
  pub leads : (p q : ℕ) → Contains (row back q) p ↔ Contains (row rows p) q
  pub ascending : (q : ℕ) → IsStrictlyIncreasing (row back q)
