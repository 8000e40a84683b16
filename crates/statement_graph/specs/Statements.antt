-- The statements of all bodies by number, and where they lead (docs/FLOW-RULES.md, "Successors").
use Rattle.std.specs.Prelude.{◌≡◌, ◌↔◌, ◌<◌, ◌+◌, ℕ, List, [], Some, Contains, length, map, slice_index_or, take, flat_map}
use Rattle.std.specs.List.Sorted.{IsStrictlyIncreasing}
use Rattle.clean_base.specs.Lists.{At}
use Rattle.clean_base.specs.declared.ids.MethodId.{MethodId}
use Rattle.clean_base.specs.declared.ids.StmtId.{StmtId}
use Rattle.jimple_tree.specs.Bodies.{stmts_of}
use Rattle.jimple_tree.specs.Successors.{Succ}
use Rattle.jimple_tree.specs.declared.tree.Body.{Body}
use Rattle.jimple_tree.specs.declared.tree.Class.{Class}
use Rattle.jimple_tree.specs.declared.tree.Method.{Method}
use Rattle.jimple_tree.specs.declared.tree.Stmt.{Stmt}
use Rattle.class_table.specs.Methods.{all_methods, stmts_in, IsNumber}

-- how many statements the first so many methods have
abbrev pub first_of : List Class → ℕ → ℕ
first_of cs m = length (flat_map (λ (k : Class × Method). stmts_of k.1) (take m (all_methods cs)))

-- the statement with this number stands at place p of the body b, which is that of the class's method with the number m
pub record IsStmt (cs : List Class) (s : StmtId) (m : MethodId) (c : Class) (k : Method) (b : Body) (p : ℕ) (stmt : Stmt) : Type 0 where
  pub method : IsNumber cs m c k
  pub body : k.body ≡ Some b
  pub place : At b.stmts p stmt
  pub number : s.0 ≡ first_of cs m.0 + p

-- the statement stands in this method
abbrev pub IsOf : List Class → StmtId → MethodId → Type 0
IsOf cs s m = (c : Class) × (k : Method) × (b : Body) × (p : ℕ) × (stmt : Stmt) × IsStmt cs s m c k b p stmt

-- it stands at this place of its body
abbrev pub IsAt : List Class → StmtId → ℕ → Type 0
IsAt cs s p = (m : MethodId) × (c : Class) × (k : Method) × (b : Body) × (stmt : Stmt) × IsStmt cs s m c k b p stmt

-- both stand in one method
abbrev pub Together : List Class → StmtId → StmtId → Type 0
Together cs s q = (m : MethodId) × IsOf cs s m × IsOf cs q m

-- the statement q is a successor of the statement s, which stands in the same body
pub record Leads (cs : List Class) (s q : StmtId) : Type 0 where
  pub m : MethodId
  pub c : Class
  pub k : Method
  pub b : Body
  pub p : ℕ
  pub stmt : Stmt
  pub is : IsStmt cs s m c k b p stmt
  pub u : ℕ
  pub succ : Succ b p u
  pub number : q.0 ≡ first_of cs m.0 + u

-- for each statement those of the relation, each once and in order
pub record AreRelated (cs : List Class) (R : StmtId → StmtId → Type 0) (rows : List (List StmtId)) : Type 0 where
  pub counted : length rows ≡ length (stmts_in cs)
  pub ascending : (s : ℕ) → IsStrictlyIncreasing (map (λ (q : StmtId). q.0) (slice_index_or rows s []))
  pub exact : (s q : StmtId) → s.0 < length (stmts_in cs) → Contains (slice_index_or rows s.0 []) q ↔ R s q

-- where each method begins, and of each statement its method, its successors and those of which it is one
pub record AreStatements (cs : List Class) (firsts : List StmtId) (owners : List MethodId) (succs preds : List (List StmtId)) : Type 0 where
  pub methods : length firsts ≡ length (all_methods cs)
  pub begins : (m : MethodId) (s : StmtId) → At firsts m.0 s → (s.0 ≡ first_of cs m.0) × IsOf cs s m
  pub owned : length owners ≡ length (stmts_in cs)
  pub owners_are : (s : StmtId) (m : MethodId) → At owners s.0 m ↔ IsOf cs s m
  pub forth : AreRelated cs (Leads cs) succs
  pub back : AreRelated cs (λ s q. Leads cs q s) preds
  pub together : (s q : StmtId) → Leads cs s q → Together cs s q
