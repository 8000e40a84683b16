-- The names of classes, and which class is a subtype of which (docs/FLOW-RULES.md, "Classes").
use Rattle.std.specs.Prelude.{◌≡◌, ◌⊎◌, ℕ, List, [], ◌++◌, map, flat_map, nat_eq, Contains, Option, Some, None}
use Rattle.std.specs.List.{find}
use lib.Pointwise.{pointwise}
use Rattle.clean_base.specs.Lists.{At}
use Rattle.clean_base.specs.declared.ids.ClassId.{ClassId}
use Rattle.jimple_tree.specs.declared.tree.Class.{Class}
use Rattle.reach_rows.specs.Reaches.{Reaches, Follows}
use Rattle.reach_rows.specs.Walks.{each_once}

-- the names behind a class's own in its heading
abbrev pub heading : Class → List (List ℕ)
heading c = c.extends ++ c.implements

-- each class name that is given or stands in a heading, once: first those of the given classes, then the others
unfoldable pub class_names : List Class → List (List ℕ)
class_names cs = each_once (pointwise nat_eq) (map (λ (c : Class). c.name) cs ++ flat_map heading cs)

-- the class that is given under the name
abbrev pub given : List Class → List ℕ → Option Class
given cs name = find (λ (c : Class). pointwise nat_eq c.name name) cs

-- the names of one kind that a class has; one that isn't given has none
abbrev pub names_of : (Class → List (List ℕ)) → Option Class → List (List ℕ)
names_of kind None = []
names_of kind (Some c) = kind c

abbrev pub names_in : (Class → List (List ℕ)) → List Class → List ℕ → List (List ℕ)
names_in kind cs name = names_of kind (given cs name)

-- the second name stands in the heading of the class of the first
abbrev pub Extends : List Class → List ℕ → List ℕ → Type 0
Extends cs a b = Contains (names_in heading cs a) b

-- b is a or stands above it
abbrev pub Subtype : List Class → List ℕ → List ℕ → Type 0
Subtype cs a b = Reaches (Extends cs) a b

-- the same for their numbers; a number is also its own
abbrev pub IsSubtype : List Class → ClassId → ClassId → Type 0
IsSubtype cs a b = (a ≡ b) ⊎ ((x y : List ℕ) × At (class_names cs) a.0 x × At (class_names cs) b.0 y × Subtype cs x y)

-- a stands above itself
abbrev pub IsOwnSupertype : List Class → List ℕ → Type 0
IsOwnSupertype cs a = Follows (Extends cs) a a
