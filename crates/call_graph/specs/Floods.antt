-- What a flood of methods keeps. The public contracts don't cite this.
use Rattle.std.specs.Prelude.{◌≡◌, ◌↔◌, ◌⊎◌, ◌++◌, ℕ, Bool, true, false, List, Contains, length, slice_index_or, Some, take}
use Rattle.std.specs.List.{count_by}
use Rattle.clean_base.specs.Lists.{At}
use Rattle.clean_base.specs.declared.ids.MethodId.{MethodId}
use Rattle.jimple_tree.specs.declared.tree.Class.{Class}
use Rattle.jimple_tree.specs.declared.tree.Invoke.{Invoke}
use Rattle.jimple_tree.specs.declared.tree.Stmt.{Stmt}
use Rattle.source_sink.specs.declared.line.Line.{Line}
use Rattle.reach_rows.specs.Reaches.{Reaches}
use Rattle.call_graph.specs.Calls.{IsOpenTo, call_in}
use Rattle.call_graph.specs.Graphs.{IsCall, Calls}
use Rattle.call_graph.specs.declared.edges.CallEdge.{CallEdge}

-- all methods that an open call may come to
abbrev pub AreOpenTargets : List Class → List Line → Invoke → List MethodId → Type 0
AreOpenTargets cs lines call targets = (n : MethodId) → Contains targets n ↔ IsOpenTo cs lines call n

abbrev pub edge_to : MethodId → ℕ → MethodId → CallEdge
edge_to caller place target = record { caller = caller; place = place; target = target }

-- the statement at this place of the caller is the call
pub record IsCallAt (cs : List Class) (lines : List Line) (caller : MethodId) (place : ℕ) (stmt : Stmt) (e : CallEdge) : Type 0 where
  pub from : e.caller ≡ caller
  pub at : e.place ≡ place
  pub call : Invoke
  pub is : call_in stmt ≡ Some call
  pub comes : IsOpenTo cs lines call e.target

-- and one of these statements is
pub record IsCallIn (cs : List Class) (lines : List Line) (caller : MethodId) (stmts : List Stmt) (e : CallEdge) : Type 0 where
  pub from : e.caller ≡ caller
  pub stmt : Stmt
  pub stands : At stmts e.place stmt
  pub call : Invoke
  pub is : call_in stmt ≡ Some call
  pub comes : IsOpenTo cs lines call e.target

-- the marks are those of the listed methods, each of which stands there once
pub record IsMet (order : List MethodId) (met : List Bool) : Type 0 where
  pub marked : (m : MethodId) → Contains order m ↔ (slice_index_or met m.0 false ≡ true)
  pub count : count_by (λ b. b) met ≡ length order

-- what stands behind the old list, and whose members the new one has besides
pub record IsMore (Also : MethodId → Type 0) (old new : List MethodId) : Type 0 where
  pub behind : List MethodId
  pub is : new ≡ old ++ behind
  pub members : (m : MethodId) → Contains new m ↔ (Contains old m ⊎ Also m)

abbrev pub IsTargetIn : List CallEdge → MethodId → Type 0
IsTargetIn edges m = (e : CallEdge) × Contains edges e × (e.target ≡ m)

-- the methods that were met from the root on, of which the first ones are done: all calls of these are listed
pub record IsFlood (cs : List Class) (lines : List Line) (root : MethodId) (order : List MethodId) (done : ℕ) (calls : List CallEdge) : Type 0 where
  pub begun : Contains order root
  pub sound : (m : MethodId) → Contains order m → Reaches (Calls cs lines) root m
  pub closed : (m n : MethodId) → Contains (take done order) m → Calls cs lines m n → Contains order n
  pub listed : (e : CallEdge) → Contains calls e ↔ (Contains (take done order) e.caller × IsCall cs lines e)
