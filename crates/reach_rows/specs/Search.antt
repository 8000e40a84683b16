-- How far a depth-first search of a whole graph has come.
use Rattle.std.specs.Prelude.{◌≡◌, ◌⊎◌, ◌↔◌, ◌<◌, ◌∷◌, ◌++◌, ◌-◌, [], ℕ, List, length, slice_index_or, take, AllPairs, Contains}
use Rattle.std.specs.List.{sum_by}
use Rattle.clean_base.specs.Lists.{At, IsDistinct}
use Rattle.reach_rows.specs.declared.search.Mark.{Mark}
use Rattle.reach_rows.specs.declared.search.Mark.TheVariants.{Unseen, OnPath, Done}
use Rattle.reach_rows.specs.declared.search.Search.{Search}
use Rattle.reach_rows.specs.Reaches.{Reaches, Follows}
use Rattle.reach_rows.specs.Graphs.{row, Steps, IsOnCycle}

-- all that follows from a node that is done stands before it, unless the node is on a cycle, and each node on the path leads
-- to all behind it there
pub record IsSearchState (rows : List (List ℕ)) (marks : List Mark) (passed path done : List ℕ) : Type 0 where
  pub marks_count : length marks ≡ length rows
  pub passed_count : length passed ≡ length rows
  pub done_marked : (a : ℕ) → Contains done a → At marks a Done
  pub marked_done : (a : ℕ) → At marks a Done → Contains done a
  pub done_once : IsDistinct done
  pub path_marked : (a : ℕ) → Contains path a → At marks a OnPath
  pub marked_path : (a : ℕ) → At marks a OnPath → Contains path a
  pub path_once : IsDistinct path
  pub joined : AllPairs (Reaches (Steps rows)) path
  pub passed_seen : (a k : ℕ) → k < slice_index_or passed a 0 → k < length (row rows a) → At marks (slice_index_or (row rows a) k 0) Unseen → ⊥
  pub done_seen : (a b : ℕ) → Contains done a → Steps rows a b → At marks b Unseen → ⊥
  pub earlier : (i a b : ℕ) → At done i a → Follows (Steps rows) a b → IsOnCycle rows a ⊎ ((j : ℕ) × (j < i) × At done j b)

-- the same of the parts of a search
abbrev pub IsStateOf : List (List ℕ) → Search → Type 0
IsStateOf rows s = IsSearchState rows s.marks.items s.passed.items s.path.items s.done.items

-- what is still to be done with a node
abbrev pub weight : Mark → ℕ
weight Unseen = 2
weight OnPath = 1
weight Done = 0

abbrev pub to_do : List Mark → ℕ
to_do marks = sum_by weight marks

-- no node turns unseen
abbrev pub KeepsSeen : List Mark → List Mark → Type 0
KeepsSeen old new = (a : ℕ) → At new a Unseen → At old a Unseen

abbrev pub IsLast : List ℕ → ℕ → Type 0
IsLast xs x = xs ≡ take (length xs - 1) xs ++ x ∷ []

-- all nodes to which one step leads are seen
abbrev pub SeesRow : List (List ℕ) → ℕ → List Mark → Type 0
SeesRow rows a marks = (b : ℕ) → Steps rows a b → At marks b Unseen → ⊥

-- all nodes, each once, and behind all that follows from it, unless it is on a cycle
pub record IsFinish (rows : List (List ℕ)) (order : List ℕ) : Type 0 where
  pub all : (a : ℕ) → Contains order a ↔ (a < length rows)
  pub distinct : IsDistinct order
  pub behind : (i j a b : ℕ) → At order i a → At order j b → Follows (Steps rows) a b → IsOnCycle rows a ⊎ (j < i)
