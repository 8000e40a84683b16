-- Items of a list with the names by which an index finds them.
use Rattle.std.proofs.Common.{◌<◌, ◌≤◌, ◌∙◌, ℕ, List, length, map, take, subst, ap, arith}
use Rattle.std.proofs.lemmas.List.{get_or-map, length-map, take_all}
use Rattle.clean_base.specs.Lists.{At}
use Rattle.name_index.specs.Index.{IsIndex}
use Rattle.name_index.specs.declared.index.NameIndex.{NameIndex}

module _ {X : Type 0} (name_of : X → List ℕ) (xs : List X) where
  -- the name of an item stands at its place
  pub name_at : (k : ℕ) (x : X) → At xs k x → At (map name_of xs) k (name_of x)
  name_at k x (below, is) = (let long = length-map xs name_of in omega (arith, long, below), get_or-map name_of xs k x (name_of x) below ∙ ap name_of is)

  -- the place of a name is that of an item
  pub place_within : (k : ℕ) (name : List ℕ) → At (map name_of xs) k name → k < length xs
  place_within k name (below, is) = let long = length-map xs name_of in omega (arith, long, below)

  -- all names are there
  pub index_all : (i : ℕ) (index : NameIndex) → length xs ≤ i → IsIndex (take i (map name_of xs)) index → IsIndex (map name_of xs) index
  index_all i index past is = subst (λ (ns : List (List ℕ)). IsIndex ns index) (take_all i (map name_of xs) (let long = length-map xs name_of in omega (arith, long, past))) is
