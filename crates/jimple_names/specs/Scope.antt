-- What the names of a body stand for: its locals by their places, and its labels by the places of statements.
use Rattle.std.specs.Prelude.{ℕ, suc, zero, List, [], ◌∷◌, ◌++◌, length, map, flat_map, Option, Some, None}
use Rattle.std.specs.List.{filter_map, find, position}
use Rattle.std.specs.Option.{option_map}
use Rattle.std.specs.Str.{bytes_eq}
use Rattle.jimple_grammar.specs.declared.lexeme.Lexeme.{Lexeme}
use Rattle.jimple_grammar.specs.declared.raw.RawBody.{RawBody}
use Rattle.jimple_grammar.specs.declared.raw.RawCode.{RawCode}
use Rattle.jimple_grammar.specs.declared.raw.RawItem.{RawItem}
use Rattle.jimple_grammar.specs.declared.raw.RawItem.TheVariants as items
use Rattle.jimple_grammar.specs.declared.raw.RawStmt.{RawStmt}
use Rattle.jimple_grammar.specs.declared.raw.RawDecl.{RawDecl}
use Rattle.jimple_names.specs.declared.scope.Label.{Label}
use Rattle.jimple_names.specs.Texts.{name_of}

-- the labels and statements of a body, in order
abbrev pub items_of : RawCode → List RawItem
items_of c = map items.Label c.labels ++ items.Stmt c.front ∷ c.rest

abbrev pub stmt_in : RawItem → Option RawStmt
stmt_in (items.Label t) = None
stmt_in (items.Stmt s) = Some s

-- the statements
abbrev pub stmts_of : List RawItem → List RawStmt
stmts_of is = filter_map stmt_in is

-- the labels, each with the place of the statement behind it, where so many statements stand before
abbrev pub labels_from : List ℕ → ℕ → List RawItem → List Label
labels_from bytes at [] = []
labels_from bytes at (items.Label t ∷ is) = record { name = name_of bytes t; place = at } ∷ labels_from bytes at is
labels_from bytes at (items.Stmt s ∷ is) = labels_from bytes (suc at) is

-- the names that are declared, in order
abbrev pub declared : RawBody → List Lexeme
declared b = flat_map (λ (d : RawDecl). d.names) b.decls

pub record Scope : Type 0 where
  -- the names of the locals, in order
  pub locals : List (List ℕ)
  -- the labels with their places; the end is the place behind the last statement
  pub labels : List Label
  -- how many statements there are
  pub count : ℕ

abbrev pub scope_of : List ℕ → RawBody → Scope
scope_of bytes b = record {
  locals = map (name_of bytes) (declared b);
  labels = labels_from bytes 0 (items_of b.code);
  count = length (stmts_of (items_of b.code));
}

-- the place of the first local of that name
abbrev pub local_at : List (List ℕ) → List ℕ → Option ℕ
local_at names name = position (λ n. bytes_eq n name) names

-- the place of the first label of that name
abbrev pub label_at : List Label → List ℕ → Option ℕ
label_at labels name = option_map (λ (l : Label). l.place) (find (λ (l : Label). bytes_eq l.name name) labels)

-- a name that stands for nothing counts as the first
abbrev pub or_first : Option ℕ → ℕ
or_first None = zero
or_first (Some at) = at
