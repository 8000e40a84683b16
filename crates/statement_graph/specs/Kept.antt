-- What a graph of statements keeps. The public contracts don't cite this.
use Rattle.std.specs.Prelude.{◌≡◌, ◌<◌, ◌≤◌, ℕ, List, length, All}
use Rattle.clean_base.specs.Limits.{most_methods, most_stmts}
use Rattle.clean_base.specs.Lists.{At}
use Rattle.clean_base.specs.declared.ids.MethodId.{MethodId}
use Rattle.clean_base.specs.declared.ids.StmtId.{StmtId}
use Rattle.jimple_tree.specs.WellFormed.{IsWellFormed}
use Rattle.jimple_tree.specs.declared.tree.Body.{Body}
use Rattle.jimple_tree.specs.declared.tree.Class.{Class}
use Rattle.jimple_tree.specs.declared.tree.Method.{Method}
use Rattle.jimple_tree.specs.declared.tree.Stmt.{Stmt}
use Rattle.class_table.specs.Methods.{all_methods, stmts_in}
use Rattle.statement_graph.specs.Statements.{first_of, AreRelated, IsStmt, Leads}
use Rattle.statement_graph.specs.Successors.{IsRow}

abbrev pub method_id : ℕ → MethodId
method_id n = record { 0 = n }

abbrev pub stmt_id : ℕ → StmtId
stmt_id n = record { 0 = n }

-- the statement stands in the method that is its owner, and the row has the numbers of its successors
pub record StandsIn (cs : List Class) (s : ℕ) (m : ℕ) (row : List ℕ) : Type 0 where
  pub c : Class
  pub k : Method
  pub b : Body
  pub p : ℕ
  pub stmt : Stmt
  pub is : IsStmt cs (stmt_id s) (method_id m) c k b p stmt
  pub leads : IsRow b (first_of cs m) p row

-- the first so many methods: where each begins, and for each of their statements its method and its successors
pub record AreListed (cs : List Class) (count : ℕ) (firsts : List StmtId) (owners : List MethodId) (rows : List (List ℕ)) : Type 0 where
  pub methods : length firsts ≡ count
  pub begins : (m : ℕ) (s : StmtId) → At firsts m s → s.0 ≡ first_of cs m
  pub owned : length owners ≡ first_of cs count
  pub rowed : length rows ≡ first_of cs count
  pub each : (s : ℕ) (m : MethodId) (row : List ℕ) → At owners s m → At rows s row → (m.0 < count) × StandsIn cs s m.0 row

-- all methods are listed, and where statements lead and where they are come from
pub record IsKept (cs : List Class) (firsts : List StmtId) (owners : List MethodId) (succs preds : List (List StmtId)) : Type 0 where
  pub well_formed : All IsWellFormed cs
  pub few_methods : length (all_methods cs) ≤ most_methods
  pub few_stmts : length (stmts_in cs) ≤ most_stmts
  pub listed : (rows : List (List ℕ)) × AreListed cs (length (all_methods cs)) firsts owners rows
  pub whole : first_of cs (length (all_methods cs)) ≡ length (stmts_in cs)
  pub forth : AreRelated cs (Leads cs) succs
  pub back : AreRelated cs (λ s q. Leads cs q s) preds
