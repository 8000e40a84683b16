-- The labels of a body. They number the places that are named, in the order of places and from 1.
-- Statements stand above, names below.
use Rattle.std.specs.Prelude.{◌≡◌, ℕ, suc, zero, ◌+◌, ◌≤◌, length, slice_index, slice_set, Bool, List, [], ◌∷◌, ◌++◌, map, codes, decimal, if◌then◌else◌, ◌==◌}
use Rattle.std.specs.List.{flat_map, fold, list_any}
use Rattle.jimple_tree.specs.declared.tree.Body.{Body}
use Rattle.jimple_tree.specs.declared.tree.Catch.{Catch}
use Rattle.jimple_tree.specs.declared.tree.Stmt.{Stmt}
use Rattle.jimple_tree.specs.declared.tree.Stmt.TheVariants.{If, Goto, Switch}

-- the places that a statement names
abbrev pub targets_of : Stmt → List ℕ
targets_of (If left cond right target) = target ∷ []
targets_of (Goto target) = target ∷ []
targets_of (Switch table key cases default) = map (λ c. c.target) cases ++ default ∷ []
targets_of _ = []

abbrev pub catch_places : Catch → List ℕ
catch_places c = c.from ∷ c.to ∷ c.with ∷ []

abbrev pub named_places : Body → List ℕ
named_places b = flat_map targets_of b.stmts ++ flat_map catch_places b.catches

unfoldable pub is_named : Body → ℕ → Bool
is_named b place = list_any (λ p. p == place) (named_places b)

-- how many of the first n places are named
unfoldable pub named_below : Body → ℕ → ℕ
named_below b zero = 0
named_below b (suc n) = named_below b n + (if is_named b n then 1 else 0)

-- how many named places stand up to a place
abbrev pub label_number : Body → ℕ → ℕ
label_number b place = named_below b (place + 1)

unfoldable pub label_text : ℕ → List ℕ
label_text number = codes "label" ++ decimal number

-- the line before a place that is named
unfoldable pub label_line : Body → ℕ → List ℕ
label_line b place = if is_named b place then codes "    " ++ label_text (label_number b place) ++ codes ":\n" else []

-- a table after each of some places was marked in it
abbrev pub marked : List ℕ → List ℕ → List ℕ
marked places table = fold (λ marks place. slice_set marks place 1) table places

-- a table with the number of each place and of the end
pub record IsNumbered (b : Body) (labels : List ℕ) : Type 0 where
  pub len : length labels ≡ length b.stmts + 1
  pub number : (place : ℕ) → place ≤ length b.stmts → slice_index labels place ≡ label_number b place
