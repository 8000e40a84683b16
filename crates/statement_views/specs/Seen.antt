-- The views of all statements of a program, and what their open calls come to (docs/FLOW-RULES.md, "Statements").
use Rattle.std.specs.Prelude.{◌≡◌, ◌↔◌, ◌≤◌, ◌+◌, ℕ, List, Option, Some, None, length, map, Contains}
use Rattle.std.specs.List.Sorted.{IsStrictlyIncreasing}
use Rattle.clean_base.specs.Lists.{At}
use Rattle.clean_base.specs.declared.ids.FieldId.{FieldId}
use Rattle.clean_base.specs.declared.ids.MethodId.{MethodId}
use Rattle.jimple_tree.specs.declared.tree.Class.{Class}
use Rattle.jimple_tree.specs.declared.tree.FieldSig.{FieldSig}
use Rattle.jimple_tree.specs.declared.tree.Invoke.{Invoke}
use Rattle.jimple_tree.specs.declared.tree.Place.{Place}
use Rattle.jimple_tree.specs.declared.tree.Place.TheVariants as place
use Rattle.jimple_tree.specs.declared.tree.Rhs.{Rhs}
use Rattle.jimple_tree.specs.declared.tree.Rhs.TheVariants as rhs
use Rattle.jimple_tree.specs.declared.tree.Stmt.{Stmt}
use Rattle.jimple_tree.specs.declared.tree.Stmt.TheVariants as stmt
use Rattle.source_sink.specs.declared.line.Line.{Line}
use Rattle.access_path.specs.declared.view.View.{View}
use Rattle.class_table.specs.Methods.{stmts_in}
use Rattle.field_table.specs.Numbers.{IsFieldNumber}
use Rattle.call_graph.specs.Calls.{IsOpenTo, call_in}
use Rattle.statement_views.specs.Views.{IsView}

-- the field to which a statement refers. A well formed one refers to one at most
abbrev pub read_ref : Rhs → Option FieldSig
read_ref (rhs.Load base sig) = Some sig
read_ref (rhs.StaticLoad sig) = Some sig
read_ref _ = None

abbrev pub assign_ref : Place → Rhs → Option FieldSig
assign_ref (place.Field base sig) value = Some sig
assign_ref (place.Static sig) value = Some sig
assign_ref _ value = read_ref value

abbrev pub ref_of : Stmt → Option FieldSig
ref_of (stmt.Assign place value) = assign_ref place value
ref_of _ = None

-- and its number
abbrev pub Refers : List Class → Stmt → FieldId → Type 0
Refers cs stmt f = (sig : FieldSig) → ref_of stmt ≡ Some sig → IsFieldNumber cs sig f

-- how the statement with this number is seen
abbrev pub Sees : List Class → List Line → ℕ → Stmt → View → Type 0
Sees cs lines s stmt view = (f : FieldId) × Refers cs stmt f × IsView cs lines f (record { 0 = s }) stmt view

-- the methods that its call may come to where it is open, each once and in order
pub record AreTargets (cs : List Class) (lines : List Line) (stmt : Stmt) (row : List MethodId) : Type 0 where
  pub ascending : IsStrictlyIncreasing (map (λ (m : MethodId). m.0) row)
  pub exact : (n : MethodId) → Contains row n ↔ ((call : Invoke) × (call_in stmt ≡ Some call) × IsOpenTo cs lines call n)

-- the first statements of all classes, with a view and a row for each
pub record AreSeen (cs : List Class) (lines : List Line) (views : List View) (rows : List (List MethodId)) : Type 0 where
  pub counted : length rows ≡ length views
  pub within : length views ≤ length (stmts_in cs)
  pub views_are : (s : ℕ) (stmt : Stmt) (view : View) → At (stmts_in cs) s stmt → At views s view → Sees cs lines s stmt view
  pub rows_are : (s : ℕ) (stmt : Stmt) (row : List MethodId) → At (stmts_in cs) s stmt → At rows s row → AreTargets cs lines stmt row

-- these statements come next
abbrev pub ComeNext : List Class → ℕ → List Stmt → Type 0
ComeNext cs n stmts = (p : ℕ) (stmt : Stmt) → At stmts p stmt → At (stmts_in cs) (n + p) stmt
