-- Methods and edges in order.
use Rattle.std.proofs.Common.{◌≡◌, ◌⊎◌, ◌↔◌, ◌<◌, ◌+◌, Contains, ℕ, List, map, get_or, AllPairs, Ordering, refl, sym, ap, subst, inl, inr, arith}
use Rattle.std.specs.declared.cmp.Ordering.TheVariants.{Less, Equal, Greater}
use Rattle.std.specs.List.Sorted.{IsStrictlyIncreasing, IsStrictlySortedBy}
use Rattle.std.specs.Ordering.{nat_cmp, ordering_then}
use Rattle.std.proofs.lemmas.Cmp.{ranked}
use Rattle.std.proofs.lemmas.List.{length-map, get_or-map}
use Rattle.std.proofs.lemmas.Map.Keys.{Less-from_sorted}
use Rattle.clean_base.specs.declared.ids.MethodId.{MethodId}
use Rattle.jimple_tree.specs.declared.tree.Class.{Class}
use Rattle.source_sink.specs.declared.line.Line.{Line}
use Rattle.class_table.specs.Members.{method_id}
use Rattle.reach_rows.specs.Reaches.{Reaches}
use Rattle.call_graph.specs.Graphs.{IsBefore, IsCall, IsCallGraph, Calls}
use Rattle.call_graph.specs.declared.edges.CallGraph.{CallGraph}
use Rattle.call_graph.specs.declared.edges.CallEdge.{CallEdge}
use Rattle.call_graph.specs.contracts.edges.CallEdgeOrd.TheImpl.{cmp-value}

less : (a b : ℕ) → nat_cmp a b ≡ Less → a < b
less a b is = ranked a b Less (sym is)

pub numbers_rise : (xs : List MethodId) → IsStrictlySortedBy (λ (a b : MethodId). nat_cmp a.0 b.0) xs → IsStrictlyIncreasing (map (λ (m : MethodId). m.0) xs)
numbers_rise xs sorted k below =
    let number = λ (m : MethodId). m.0 in
    let long = length-map xs number in
    let none : MethodId = record { 0 = 0 } in
    let here = get_or-map number xs k none 0 (omega (arith, below, long)) in
    let next = get_or-map number xs (k + 1) none 0 (omega (arith, below, long)) in
    let up = less (get_or xs k none).0 (get_or xs (k + 1) none).0 (Less-from_sorted (λ (a b : MethodId). nat_cmp a.0 b.0) xs k (k + 1) none sorted (omega arith) (omega (arith, below, long))) in
    omega (arith, here, next, up)

-- what comes first by two keys, of which the second tells where the first doesn't
first_by : (a b : ℕ) (o r : Ordering) → o ≡ nat_cmp a b → ordering_then o r ≡ Less → (a < b) ⊎ ((a ≡ b) × (r ≡ Less))
first_by a b Less r e is = inl (ranked a b Less e)
first_by a b Equal r e is = inr (ranked a b Equal e, is)
first_by a b Greater r e is = cc (is)

pub before_of : (e f : CallEdge) → cmp-value.it e f ≡ Less → IsBefore e f
before_of e f is = elim (first_by e.caller.0 f.caller.0 _ (ordering_then (nat_cmp e.place f.place) (nat_cmp e.target.0 f.target.0)) refl is) [
  | inl callers ↦ inl callers
  | inr same ↦ inr (
    ap method_id same.0,
    elim (first_by e.place f.place _ (nat_cmp e.target.0 f.target.0) refl same.1) [
      | inl places ↦ inl places
      | inr here ↦ inr (here.0, less e.target.0 f.target.0 here.1)
    ],
  )
]

pub edges_rise : (xs : List CallEdge) → IsStrictlySortedBy cmp-value.it xs → AllPairs IsBefore xs
edges_rise xs sorted i j d order below = before_of (get_or xs i d) (get_or xs j d) (Less-from_sorted cmp-value.it xs i j d sorted order below)

-- the graph is what was reached, in order
pub graph_of : (cs : List Class) (lines : List Line) (root : MethodId) (flooded g : CallGraph) (calls was_calls : List CallEdge) (reached was_reached : List MethodId)
    → g.calls ≡ calls → g.reached ≡ reached → was_calls ≡ flooded.calls → was_reached ≡ flooded.reached
    → ((m : MethodId) → Contains flooded.reached m ↔ Reaches (Calls cs lines) root m)
    → ((e : CallEdge) → Contains flooded.calls e ↔ (Reaches (Calls cs lines) root e.caller × IsCall cs lines e))
    → IsStrictlySortedBy cmp-value.it calls → ((e : CallEdge) → Contains calls e ↔ Contains was_calls e)
    → IsStrictlyIncreasing (map (λ (m : MethodId). m.0) reached) → ((m : MethodId) → Contains reached m ↔ Contains was_reached m)
    → IsCallGraph cs lines root g
graph_of cs lines root flooded g calls was_calls reached was_reached gc gr wc wr are listed sorted same_calls ascending same_methods = record {
  reached = λ m. subst (λ (ms : List MethodId). Contains ms m ↔ Reaches (Calls cs lines) root m) (sym gr)
      (through (same_methods m) (subst (λ (ms : List MethodId). Contains ms m ↔ Reaches (Calls cs lines) root m) (sym wr) (are m)));
  calls = λ e. subst (λ (es : List CallEdge). Contains es e ↔ (Reaches (Calls cs lines) root e.caller × IsCall cs lines e)) (sym gc)
      (through (same_calls e) (subst (λ (es : List CallEdge). Contains es e ↔ (Reaches (Calls cs lines) root e.caller × IsCall cs lines e)) (sym wc) (listed e)));
  methods_ascend = subst (λ (ms : List MethodId). IsStrictlyIncreasing (map (λ (m : MethodId). m.0) ms)) (sym gr) ascending;
  calls_ascend = subst (λ (es : List CallEdge). AllPairs IsBefore es) (sym gc) (edges_rise calls sorted);
} where
  through : {A B C : Type 0} → A ↔ B → B ↔ C → A ↔ C
  through f g = (λ a. g.0 (f.0 a), λ c. f.1 (g.1 c))
