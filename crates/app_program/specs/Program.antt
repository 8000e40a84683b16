-- The program of classes and a list, and where it is entered (docs/ARCHITECTURE.md, "The way of one input").
use Rattle.std.specs.Prelude.{◌≡◌, ◌↔◌, ◌+◌, ℕ, List, length, map}
use Rattle.std.specs.List.Sorted.{IsStrictlyIncreasing}
use Rattle.clean_base.specs.Lists.{At}
use Rattle.clean_base.specs.declared.ids.MethodId.{MethodId}
use Rattle.clean_base.specs.declared.ids.StmtId.{StmtId}
use Rattle.jimple_tree.specs.declared.tree.Class.{Class}
use Rattle.jimple_tree.specs.declared.tree.Method.{Method}
use Rattle.jimple_tree.specs.declared.tree.Stmt.{Stmt}
use Rattle.source_sink.specs.declared.line.Line.{Line}
use Rattle.access_path.specs.declared.view.View.{View}
use Rattle.class_table.specs.Methods.{all_methods, stmts_in, IsNumber}
use Rattle.field_table.specs.Numbers.{field_sigs, own_fields}
use Rattle.flow_rules.specs.Code.{Code, Follows, StandsIn}
use Rattle.program_code.specs.App.{App, locals_of}
use Rattle.statement_graph.specs.Statements.{first_of, IsOf, Leads}
use Rattle.statement_views.specs.Seen.{AreTargets, Sees}
use Rattle.app_program.specs.Entry.{IsRoot}
use Rattle.app_program.specs.declared.entry.Entry.{Entry}

-- the methods with a body: where each begins, and how many locals it has
pub record AreMethods (cs : List Class) (code : Code) : Type 0 where
  pub count : length code.firsts ≡ length (all_methods cs)
  pub firsts : (m : MethodId) (s : StmtId) → At code.firsts m.0 s → s.0 ≡ first_of cs m.0
  pub counted : length code.locals ≡ length (all_methods cs)
  pub locals : (m : MethodId) (c : Class) (k : Method) → IsNumber cs m c k → At code.locals m.0 (length (locals_of k))

-- the statements of all bodies: of each its method, its view, its successors and the methods that its open call may come to
pub record AreStmts (cs : List Class) (lines : List Line) (code : Code) : Type 0 where
  pub owned : length code.owners ≡ length (stmts_in cs)
  pub owners : (s : StmtId) (m : MethodId) → StandsIn code s m ↔ IsOf cs s m
  pub viewed : length code.views ≡ length (stmts_in cs)
  pub views : (s : ℕ) (stmt : Stmt) (view : View) → At (stmts_in cs) s stmt → At code.views s view → Sees cs lines s stmt view
  pub led : length code.nexts ≡ length (stmts_in cs)
  pub ascending : (s : ℕ) (qs : List StmtId) → At code.nexts s qs → IsStrictlyIncreasing (map (λ (q : StmtId). q.0) qs)
  pub nexts : (s q : StmtId) → Follows code s q ↔ Leads cs s q
  pub called : length code.targets ≡ length (stmts_in cs)
  pub targets : (s : ℕ) (stmt : Stmt) (row : List MethodId) → At (stmts_in cs) s stmt → At code.targets s row → AreTargets cs lines stmt row

-- the program is entered at the method where the entry leads
pub record IsProgram (cs : List Class) (lines : List Line) (entry : Entry) (app : App) : Type 0 where
  pub classes : app.classes ≡ cs
  pub fields : app.fields ≡ field_sigs cs
  pub numbered : app.code.fields ≡ own_fields + length (field_sigs cs)
  pub root : IsRoot cs entry app.code.root
  pub methods : AreMethods cs app.code
  pub stmts : AreStmts cs lines app.code
