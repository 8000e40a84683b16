-- An index of the names of a list. Who keeps one cites `IsIndex` and opens nothing of it.
use Rattle.std.specs.Prelude.{◌↔◌, ℕ, List, [], nat_eq, Contains, Vec, Option, Some, None}
use Rattle.std.specs.List.Sorted.{IsStrictlyIncreasing}
use Rattle.std.specs.HashMap.{get}
use lib.Pointwise.{pointwise}
use Rattle.clean_base.specs.Lists.{At}
use Rattle.name_index.specs.declared.index.NameIndex.{NameIndex}

-- what is kept for a name, or none
abbrev pub or_none : {A : Type 0} → Option (Vec ℕ A) → List ℕ
or_none None = []
or_none (Some places) = places.items

abbrev pub places_of : NameIndex → List ℕ → List ℕ
places_of index name = or_none (get (pointwise nat_eq) index.places name)

-- it has the places of each name of the list, in order
pub record IsIndex (names : List (List ℕ)) (index : NameIndex) : Type 0 where
  pub exact : (name : List ℕ) (place : ℕ) → Contains (places_of index name) place ↔ At names place name
  pub ascending : (name : List ℕ) → IsStrictlyIncreasing (places_of index name)
