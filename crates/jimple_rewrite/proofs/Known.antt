-- What the names of a scope stand for, where they are those of a body: each local and each named place has its name in it.
use Rattle.std.specs.Prelude.{◌≡◌, ℕ, suc, ◌<◌, ◌≤◌, Bool, true, false, List, [], ◌∷◌, length, map, slice_index_or, Some}
use Rattle.jimple_tree.specs.Labels.{is_named, label_number, label_text}
use Rattle.jimple_tree.specs.declared.tree.Body.{Body}
use Rattle.jimple_tree.specs.declared.tree.Local.{Local}
use Rattle.jimple_tree.specs.declared.tree.Stmt.{Stmt}
use Rattle.jimple_names.specs.declared.scope.Label.{Label}
use Rattle.jimple_names.specs.Scope.{Scope, local_at, label_at}
use Rattle.jimple_rewrite.proofs.IsName.{IsName}

abbrev pub local_name : Body → ℕ → List ℕ
local_name b x = slice_index_or (map (λ (l : Local). l.name) b.locals) x []

pub record Knows (b : Body) (s : Scope) : Type 0 where
  pub name : (x : ℕ) → x < length b.locals → IsName (local_name b x)
  pub local : (x : ℕ) → x < length b.locals → local_at s.locals (local_name b x) ≡ Some x
  pub place : (p : ℕ) → p ≤ length b.stmts → is_named b p ≡ true → label_at s.labels (label_text (label_number b p)) ≡ Some p
  pub count : s.count ≡ length b.stmts

-- The scope of a body

abbrev pub label_of : Body → ℕ → Label
label_of b place = record { name = label_text (label_number b place); place = place }

abbrev pub label_if : Bool → Label → List Label → List Label
label_if true label rest = label ∷ rest
label_if false label rest = rest

-- the labels of the named places from this place on
abbrev pub labels_of : Body → ℕ → List Stmt → List Label
labels_of b place [] = label_if (is_named b place) (label_of b place) []
labels_of b place (s ∷ more) = label_if (is_named b place) (label_of b place) (labels_of b (suc place) more)

abbrev pub known_scope : Body → Scope
known_scope b = record { locals = map (λ (l : Local). l.name) b.locals; labels = labels_of b 0 b.stmts; count = length b.stmts }
