-- What stands first on walks, where each node has a thing or none. The public contracts don't cite this.
use Rattle.std.specs.Prelude.{◌≡◌, ℕ, List, [], ◌∷◌, length, map, slice_index_or, Option, Some, None}
use Rattle.clean_base.specs.Lists.{At}
use Rattle.reach_rows.specs.Graphs.{row}
use Rattle.reach_rows.specs.Walks.{Walk}

-- the first thing of a list
abbrev pub first_some : {X : Type 0} → List (Option X) → Option X
first_some [] = None
first_some (None ∷ xs) = first_some xs
first_some (Some x ∷ xs) = Some x

-- the first that the nodes have
abbrev pub taken : {X : Type 0} → List (Option X) → List ℕ → Option X
taken things nodes = first_some (map (λ a. slice_index_or things a None) nodes)

-- for each node the first that those of its row have
pub record AreNext {X : Type 0} (rows : List (List ℕ)) (things found : List (Option X)) : Type 0 where
  pub count : length found ≡ length rows
  pub each : (a : ℕ) (x : Option X) → At found a x → x ≡ taken things (row rows a)

-- for each node the first that is met on the walk from it
pub record AreAlong {X : Type 0} (rows : List (List ℕ)) (things found : List (Option X)) : Type 0 where
  pub count : length found ≡ length rows
  pub each : (a : ℕ) (x : Option X) → At found a x → (met : List ℕ) × Walk (row rows) (a ∷ []) met × (x ≡ taken things met)
