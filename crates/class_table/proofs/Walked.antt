-- Walks along the numbers of names are walks along names.
use Rattle.std.proofs.Common.{◌≡◌, ◌<◌, ℕ, List, [], ◌∷◌, ◌++◌, length, map, All, sym, subst}
use Rattle.std.proofs.lemmas.List.{map-append, get_or_default}
use Rattle.std.proofs.lemmas.List.Elements.{All-head, All-tail, All-append, All-cons}
use Rattle.reach_rows.specs.Graphs.{row}
use Rattle.reach_rows.specs.Walks.{Walk, none, down}
use Rattle.jimple_tree.specs.declared.tree.Class.{Class}
use Rattle.class_table.specs.Hierarchy.{class_names, names_in}
use Rattle.class_table.specs.Links.{name_at, AreRows}

-- the numbers are those of names
abbrev pub AreNumbers : List Class → List ℕ → Type 0
AreNumbers cs is = All (λ (i : ℕ). i < length (class_names cs)) is

module _ (cs : List Class) (kind : Class → List (List ℕ)) (rows : List (List ℕ)) (are : AreRows cs kind rows) where
  -- the names of a row
  pub row_names : (i : ℕ) → i < length (class_names cs) → map (name_at cs) (row rows i) ≡ names_in kind cs (name_at cs i)
  row_names i below = are.each i (name_at cs i) (below, get_or_default (class_names cs) i (name_at cs i) [] below)

  -- a walk from numbers meets numbers
  pub walk_numbers : {is met : List ℕ} → Walk (row rows) is met → AreNumbers cs is → AreNumbers cs met
  walk_numbers none within = within
  walk_numbers (down {x} {xs} {below} {rest} deep wide) within =
      let P = λ (i : ℕ). i < length (class_names cs) in
      All-cons P x (below ++ rest) (All-head P x xs within) (All-append P below rest (walk_numbers deep (are.within x)) (walk_numbers wide (All-tail P x xs within)))

  -- and along their names it meets the names of these
  pub walk_names : {is met : List ℕ} → Walk (row rows) is met → AreNumbers cs is → Walk (names_in kind cs) (map (name_at cs) is) (map (name_at cs) met)
  walk_names none within = none
  walk_names (down {x} {xs} {below} {rest} deep wide) within =
      let P = λ (i : ℕ). i < length (class_names cs) in
      let inner : Walk (names_in kind cs) (names_in kind cs (name_at cs x)) (map (name_at cs) below) =
      subst (λ (ns : List (List ℕ)). Walk (names_in kind cs) ns (map (name_at cs) below)) (row_names x (All-head P x xs within)) (walk_names deep (are.within x)) in
      subst (λ (ns : List (List ℕ)). Walk (names_in kind cs) (map (name_at cs) (x ∷ xs)) (name_at cs x ∷ ns)) (sym (map-append (name_at cs) below rest)) (down inner (walk_names wide (All-tail P x xs within)))
