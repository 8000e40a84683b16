-- Kinds of names in the heading of a class. The public contracts don't cite this.
use Rattle.std.specs.Prelude.{◌≡◌, ◌<◌, ℕ, List, [], length, slice_index_or, map, All}
use Rattle.clean_base.specs.Lists.{At}
use Rattle.jimple_tree.specs.declared.tree.Class.{Class}
use Rattle.reach_rows.specs.Graphs.{row}
use Rattle.class_table.specs.Hierarchy.{heading}
use Rattle.class_table.specs.Resolving.{superclass, interfaces}
use Rattle.class_table.specs.declared.rows.Kind.{Kind}
use Rattle.class_table.specs.declared.rows.Kind.TheVariants.{Heading, Superclass, Interfaces}

abbrev pub kind_names : Kind → Class → List (List ℕ)
kind_names Heading = heading
kind_names Superclass = superclass
kind_names Interfaces = interfaces

-- the names of these numbers among the keys
abbrev pub names_at : List (List ℕ) → List ℕ → List (List ℕ)
names_at keys is = map (λ i. slice_index_or keys i []) is

-- the numbers are those of keys
abbrev pub AreWithin : List (List ℕ) → List ℕ → Type 0
AreWithin keys is = All (λ i. i < length keys) is

-- the numbers of these names
abbrev pub IsRow : List (List ℕ) → List ℕ → List (List ℕ) → Type 0
IsRow keys is names = (names_at keys is ≡ names) × AreWithin keys is

-- a row for each class, in order
pub record AreOwnRows (keys : List (List ℕ)) (kind : Class → List (List ℕ)) (cs : List Class) (rows : List (List ℕ)) : Type 0 where
  pub count : length rows ≡ length cs
  pub each : (i : ℕ) (c : Class) → At cs i c → IsRow keys (row rows i) (kind c)
