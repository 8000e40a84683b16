-- The report of a program's leaks (docs/FORMATS.md, "Report").
use Rattle.std.specs.Prelude.{◌≡◌, ◌-◌, Bool, nat_lt, length, ℕ, zero, suc, List, [], ◌++◌, codes, map, flat_map, slice_index_or, IsPermutation, IsSorted}
use Rattle.std.specs.Ordering.{nat_cmp, ordering_then}
use Rattle.std.specs.declared.cmp.Ordering.{Ordering}
use Rattle.std.specs.Cmp.Lexicographic.{slice_cmp}
use Rattle.clean_base.specs.declared.ids.FieldId.{FieldId}
use Rattle.clean_base.specs.declared.ids.LocalId.{LocalId}
use Rattle.clean_base.specs.declared.ids.MethodId.{MethodId}
use Rattle.clean_base.specs.declared.ids.StmtId.{StmtId}
use Rattle.jimple_tree.specs.Printed.{field_text}
use Rattle.jimple_tree.specs.declared.tree.Class.{Class}
use Rattle.jimple_tree.specs.declared.tree.FieldSig.{FieldSig}
use Rattle.jimple_tree.specs.declared.tree.Local.{Local}
use Rattle.jimple_tree.specs.declared.tree.Method.{Method}
use Rattle.class_table.specs.Methods.{all_methods}
use Rattle.ifds_model.specs.Machine.{Machine}
use Rattle.ifds_model.specs.Runs.{IsEdge, IsContext, IsLeak, Lists, HasCount}
use Rattle.ifds_model.specs.declared.node.Leak.{Leak}
use Rattle.flow_rules.specs.Code.{Code, method_of}
use Rattle.flow_rules.specs.Own.{IsStmt}
use Rattle.program_code.specs.App.{App, locals_of}
use Rattle.leak_report.specs.Printed.{method_text_at, place_text, count_text}
use Rattle.leak_report.specs.declared.report.Line.{Line}

-- the place of a statement in the body of its method
abbrev pub place_of : Code → StmtId → ℕ
place_of code s = s.0 - (slice_index_or code.firsts (method_of code s).0 (record { 0 = 0 })).0

-- a statement is printed as its method and its place
unfoldable pub stmt_text : App → StmtId → List ℕ
stmt_text app s = method_text_at app.classes (method_of app.code s) ++ place_text (place_of app.code s)

-- the name of a method's local
abbrev pub locals_at : List Class → MethodId → List Local
locals_at cs m = slice_index_or (map (λ (own : Class × Method). locals_of own.1) (all_methods cs)) m.0 []

unfoldable pub local_text : App → MethodId → LocalId → List ℕ
local_text app m x = slice_index_or (map (λ (l : Local). l.name) (locals_at app.classes m)) x.0 []

-- a field of a path
abbrev pub field_text_at : List FieldSig → ℕ → List ℕ
field_text_at sigs zero = codes "[]"
field_text_at sigs (suc zero) = codes "inside"
field_text_at sigs (suc (suc n)) = slice_index_or (map field_text sigs) n []

abbrev pub step_text : App → FieldId → List ℕ
step_text app f = codes "." ++ field_text_at app.fields f.0

-- a path is printed as the name of its local and its fields
unfoldable pub path_text : App → MethodId → LocalId → List FieldId → List ℕ
path_text app m x fields = local_text app m x ++ flat_map (step_text app) fields

-- what a line shows of a leak: the path is one of the sink's method
abbrev pub line_of : App → Leak → Line
line_of app l = record { sink = l.sink; source = l.source; path = path_text app (method_of app.code l.sink) l.base l.fields }

-- a line that names only the program's own statements. The public contracts don't cite this
pub record OwnLine (code : Code) (line : Line) : Type 0 where
  pub sink : IsStmt code line.sink
  pub source : IsStmt code line.source

abbrev pub line_text : App → Line → List ℕ
line_text app line = codes "leak " ++ stmt_text app line.sink ++ codes " from " ++ stmt_text app line.source ++ codes " at " ++ line.path ++ codes "\n"

-- lines stand in the order of their sinks, then of their sources, then of the bytes of their paths
abbrev pub line_order : Line → Line → Ordering
line_order a b = ordering_then (nat_cmp a.sink.0 b.sink.0) (ordering_then (nat_cmp a.source.0 b.source.0) (slice_cmp nat_cmp a.path b.path))

abbrev pub report_text : App → List Line → ℕ → ℕ → List ℕ
report_text app lines edges contexts = flat_map (line_text app) lines ++ count_text (codes "edges ") edges ++ count_text (codes "contexts ") contexts

-- the list has a line for each of the leaks, in order
pub record Shows (app : App) (leaks : List Leak) (lines : List Line) : Type 0 where
  pub each : IsPermutation (map (line_of app) leaks) lines
  pub in_order : IsSorted line_order lines

-- the text is the report of a machine over this program, with so many path edges, and has leaks or not
pub record Reports {F : Type 0} (P : Machine F Leak) (app : App) (edges : ℕ) (text : List ℕ) (leaky : Bool) : Type 0 where
  pub leaks : List Leak
  pub listed : Lists (IsLeak P) leaks
  pub lines : List Line
  pub shown : Shows app leaks lines
  pub counted : HasCount (IsEdge P) edges
  pub contexts : ℕ
  pub known : HasCount (IsContext P) contexts
  pub is : text ≡ report_text app lines edges contexts
  pub leaky_is : leaky ≡ nat_lt 0 (length lines)
