-- What the walk over bodies and members sees. The pass over names is proved against it, and it against the tree and the
-- faults. The public contracts cite none of it.
use Rattle.std.specs.Prelude.{◌≡◌, ℕ, suc, ◌==◌, Bool, false, List, [], ◌∷◌, ◌++◌, map, Option, Some, None, Result, Ok, Err}
use Rattle.std.specs.List.{position}
use Rattle.std.specs.Str.{bytes_eq}
use Rattle.jimple_grammar.specs.declared.lexeme.Lexeme.{Lexeme}
use Rattle.jimple_grammar.specs.declared.raw.RawBody.{RawBody}
use Rattle.jimple_grammar.specs.declared.raw.RawCode.{RawCode}
use Rattle.jimple_grammar.specs.declared.raw.RawItem.{RawItem}
use Rattle.jimple_grammar.specs.declared.raw.RawItem.TheVariants as items
use Rattle.jimple_names.specs.declared.scope.Label.{Label}
use Rattle.jimple_names.specs.declared.stop.NameFault.{NameFault}
use Rattle.jimple_names.specs.declared.stop.NameFault.TheVariants.{DoubleName}
use Rattle.jimple_names.specs.declared.stop.NameStop.{NameStop}
use Rattle.jimple_names.specs.declared.stop.NameStop.TheVariants as stops
use Rattle.jimple_names.specs.Texts.{name_of}
use Rattle.jimple_names.specs.declared.bodies.Parts.{Parts}
use Rattle.jimple_names.specs.Scope.{Scope, local_at, scope_of, items_of, stmts_of}
use Rattle.jimple_names.specs.Tree.{stmt_of, catch_of}
use Rattle.jimple_names.specs.Faults.{unless, stmt_fault}

-- why a check stops: its first fault, or want of memory at any time
abbrev pub Stopped : NameStop → Option NameFault → Type 0
Stopped stops.OutOfMemory fault = Unit {0}
Stopped (stops.Fault f) fault = fault ≡ Some f

-- what a check gives: no fault, or why it stops
abbrev pub Checked : {X : Type 0} → Result X NameStop → Option NameFault → Type 0
Checked (Ok x) fault = fault ≡ None
Checked (Err e) fault = Stopped e fault

-- that number was found
abbrev pub is_at : Option ℕ → ℕ → Bool
is_at None n = false
is_at (Some m) n = m == n

-- a label before so many statements
abbrev pub label_of : List ℕ → ℕ → Lexeme → Label
label_of bytes place t = record { name = name_of bytes t; place = place }

-- how many statements stand up to an item and with it
abbrev pub place_behind : ℕ → RawItem → ℕ
place_behind at (items.Label t) = at
place_behind at (items.Stmt s) = suc at

-- how many labels stand up to an item and with it
abbrev pub number_behind : ℕ → RawItem → ℕ
number_behind n (items.Label t) = suc n
number_behind n (items.Stmt s) = n

module _ (bytes : List ℕ) (s : Scope) where
  -- the local of that number is the first of its name
  abbrev pub numbered_local : ℕ → Lexeme → Option NameFault
  numbered_local n t = unless (is_at (local_at s.locals (name_of bytes t)) n) (DoubleName t.from)

  abbrev pub numbered_label : ℕ → Lexeme → Option NameFault
  numbered_label n t = unless (is_at (position (λ (l : Label). bytes_eq l.name (name_of bytes t)) s.labels) n) (DoubleName t.from)

  -- an item behind so many labels
  abbrev pub numbered_fault : ℕ → RawItem → Option NameFault
  numbered_fault n (items.Label t) = numbered_label n t
  numbered_fault n (items.Stmt x) = stmt_fault bytes s x

-- the labels before the first statement, and that statement
abbrev pub front_of : RawCode → List RawItem
front_of c = map items.Label c.labels ++ items.Stmt c.front ∷ []

-- the statements and catch clauses of a body
abbrev pub parts_of : List ℕ → RawBody → Parts
parts_of bytes b = record {
  stmts = map (stmt_of bytes (scope_of bytes b)) (stmts_of (items_of b.code));
  catches = map (catch_of bytes (scope_of bytes b)) b.catches;
}
