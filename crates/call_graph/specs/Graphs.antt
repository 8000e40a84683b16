-- The call graph of classes from a method on (docs/FLOW-RULES.md, "Calls").
use Rattle.std.specs.Prelude.{◌≡◌, ◌↔◌, ◌⊎◌, ◌<◌, List, Contains, Some, AllPairs, map}
use Rattle.std.specs.List.Sorted.{IsStrictlyIncreasing}
use Rattle.clean_base.specs.Lists.{At}
use Rattle.clean_base.specs.declared.ids.MethodId.{MethodId}
use Rattle.jimple_tree.specs.declared.tree.Body.{Body}
use Rattle.jimple_tree.specs.declared.tree.Class.{Class}
use Rattle.jimple_tree.specs.declared.tree.Invoke.{Invoke}
use Rattle.jimple_tree.specs.declared.tree.Method.{Method}
use Rattle.jimple_tree.specs.declared.tree.Stmt.{Stmt}
use Rattle.source_sink.specs.declared.line.Line.{Line}
use Rattle.class_table.specs.Methods.{IsNumber}
use Rattle.reach_rows.specs.Reaches.{Reaches}
use Rattle.call_graph.specs.Calls.{IsOpenTo, call_in}
use Rattle.call_graph.specs.declared.edges.CallEdge.{CallEdge}
use Rattle.call_graph.specs.declared.edges.CallGraph.{CallGraph}

-- the first edge stands before the second: by their callers, places and targets
abbrev pub IsBefore : CallEdge → CallEdge → Type 0
IsBefore e f = (e.caller.0 < f.caller.0) ⊎ ((e.caller ≡ f.caller) × ((e.place < f.place) ⊎ ((e.place ≡ f.place) × (e.target.0 < f.target.0))))

module _ (cs : List Class) (lines : List Line) where
  -- the statement at a place of the caller's body is an open call that may come to the target
  pub record IsCall (e : CallEdge) : Type 0 where
    pub class : Class
    pub method : Method
    pub body : Body
    pub stmt : Stmt
    pub call : Invoke
    pub number : IsNumber cs e.caller class method
    pub has_body : method.body ≡ Some body
    pub stands : At body.stmts e.place stmt
    pub is : call_in stmt ≡ Some call
    pub comes : IsOpenTo cs lines call e.target

  -- some statement of the first method calls the second
  abbrev pub Calls : MethodId → MethodId → Type 0
  Calls m n = (e : CallEdge) × IsCall e × (e.caller ≡ m) × (e.target ≡ n)

  -- the methods that the root reaches by open calls, and all open calls of these; both in order, each once
  pub record IsCallGraph (root : MethodId) (g : CallGraph) : Type 0 where
    pub reached : (m : MethodId) → Contains g.reached m ↔ Reaches Calls root m
    pub calls : (e : CallEdge) → Contains g.calls e ↔ (Reaches Calls root e.caller × IsCall e)
    pub methods_ascend : IsStrictlyIncreasing (map (λ (m : MethodId). m.0) g.reached)
    pub calls_ascend : AllPairs IsBefore g.calls
