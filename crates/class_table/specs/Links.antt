-- What a table keeps of the hierarchy. The public contracts don't cite this.
use Rattle.std.specs.Prelude.{◌≡◌, ◌<◌, ℕ, List, [], length, slice_index_or, map, All}
use Rattle.clean_base.specs.Lists.{At}
use Rattle.jimple_tree.specs.declared.tree.Class.{Class}
use Rattle.reach_rows.specs.Graphs.{row}
use Rattle.class_table.specs.Hierarchy.{class_names, names_in}

-- the name of a number
abbrev pub name_at : List Class → ℕ → List ℕ
name_at cs i = slice_index_or (class_names cs) i []

-- the graph of the names of one kind: for each name the numbers of those that its class has
pub record AreRows (cs : List Class) (kind : Class → List (List ℕ)) (rows : List (List ℕ)) : Type 0 where
  pub count : length rows ≡ length (class_names cs)
  pub each : (i : ℕ) (name : List ℕ) → At (class_names cs) i name → map (name_at cs) (row rows i) ≡ names_in kind cs name
  pub within : (i : ℕ) → All (λ j. j < length (class_names cs)) (row rows i)
