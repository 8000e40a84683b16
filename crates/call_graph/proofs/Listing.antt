-- The calls of statements and of methods, as edges.
use Rattle.std.proofs.Common.{◌≡◌, ◌⊎◌, ◌↔◌, ◌<◌, ◌≤◌, ◌+◌, ◌++◌, ℕ, List, Option, Some, None, is_some, true, All, Contains, length, map, get_or, refl, sym, ap, subst, ◌∙◌, inl, inr, arith}
use Rattle.std.proofs.lemmas.Bool.{cases_eq}
use Rattle.std.proofs.lemmas.List.Elements.{Contains-get_or, Contains-append_left, Contains-append_right, Contains-append_cases}
use Rattle.std.proofs.lemmas.List.Folds.{length-flat_map-take}
use Rattle.std.proofs.lemmas.Option.{same_Some}
use Rattle.clean_base.specs.Lists.{At}
use Rattle.clean_base.specs.declared.ids.MethodId.{MethodId}
use Rattle.jimple_tree.specs.Bodies.{all_stmts, stmts_of, body_stmts}
use Rattle.jimple_tree.specs.declared.tree.Body.{Body}
use Rattle.jimple_tree.specs.declared.tree.Class.{Class}
use Rattle.jimple_tree.specs.declared.tree.Invoke.{Invoke}
use Rattle.jimple_tree.specs.declared.tree.InvokeKind.{InvokeKind}
use Rattle.jimple_tree.specs.declared.tree.InvokeKind.TheVariants as kinds
use Rattle.jimple_tree.specs.declared.tree.Method.{Method}
use Rattle.jimple_tree.specs.declared.tree.Sig.{Sig}
use Rattle.jimple_tree.specs.declared.tree.Stmt.{Stmt}
use Rattle.source_sink.specs.declared.line.Line.{Line}
use Rattle.class_table.specs.Methods.{all_methods, stmts_in, IsNumber}
use Rattle.class_table.proofs.Linked.{map_has, map_from}
use Rattle.class_table.proofs.Numbers.{before, number_from}
use Rattle.class_table.proofs.Signed.{one_item}
use Rattle.call_graph.specs.Calls.{IsOpenTo, IsTargetOf, call_in}
use Rattle.call_graph.specs.Floods.{IsCallAt, IsCallIn, edge_to}
use Rattle.call_graph.specs.Graphs.{IsCall}
use Rattle.call_graph.specs.declared.edges.CallEdge.{CallEdge}

module _ (cs : List Class) (lines : List Line) where
  -- the edges of a call, behind others
  pub edges_added : (old new : List CallEdge) (caller : MethodId) (place : ℕ) (stmt : Stmt) (call : Invoke) (targets : List MethodId) → call_in stmt ≡ Some call
      → ((n : MethodId) → Contains targets n ↔ IsOpenTo cs lines call n) → new ≡ old ++ map (edge_to caller place) targets
      → (e : CallEdge) → Contains new e ↔ (Contains old e ⊎ IsCallAt cs lines caller place stmt e)
  edges_added old new caller place stmt call targets is exact more e = (there, back) where
    at : ((n : MethodId) × Contains targets n × (edge_to caller place n ≡ e)) → IsCallAt cs lines caller place stmt e
    at (n, has, same) = subst (IsCallAt cs lines caller place stmt) same (record { from = refl; at = refl; call = call; is = is; comes = (exact n).0 has })

    there : Contains new e → Contains old e ⊎ IsCallAt cs lines caller place stmt e
    there has = elim (Contains-append_cases old (map (edge_to caller place) targets) e (subst (λ (es : List CallEdge). Contains es e) more has)) [
      | inl early ↦ inl early
      | inr late ↦ inr (at (map_from (edge_to caller place) targets e late))
    ]

    edge : IsCallAt cs lines caller place stmt e → Contains (map (edge_to caller place) targets) e
    edge h =
        let one : h.call ≡ call = same_Some h.call call (sym h.is ∙ is) in
        let has = (exact e.target).1 (subst (λ (i : Invoke). IsOpenTo cs lines i e.target) one h.comes) in
        let same : edge_to caller place e.target ≡ e = ap (λ (m : MethodId). edge_to m place e.target) (sym h.from) ∙ ap (λ (p : ℕ). edge_to e.caller p e.target) (sym h.at) in
        subst (λ (f : CallEdge). Contains (map (edge_to caller place) targets) f) same (map_has (edge_to caller place) targets e.target has)

    back : Contains old e ⊎ IsCallAt cs lines caller place stmt e → Contains new e
    back (inl early) = subst (λ (es : List CallEdge). Contains es e) (sym more) (Contains-append_left old (map (edge_to caller place) targets) e early)
    back (inr h) = subst (λ (es : List CallEdge). Contains es e) (sym more) (Contains-append_right old (map (edge_to caller place) targets) e (edge h))

  -- a statement without a call adds none
  pub no_call_at : (old : List CallEdge) (caller : MethodId) (place : ℕ) (stmt : Stmt) → call_in stmt ≡ None → (e : CallEdge) → Contains old e ↔ (Contains old e ⊎ IsCallAt cs lines caller place stmt e)
  no_call_at old caller place stmt none e = (λ has. inl has, back) where
    back : Contains old e ⊎ IsCallAt cs lines caller place stmt e → Contains old e
    back (inl has) = has
    back (inr h) = let clash : Some h.call ≡ None = sym h.is ∙ none in absurd (cc)

  -- one statement more
  pub stmt_more : (caller : MethodId) (stmts : List Stmt) (i : ℕ) (stmt : Stmt) (old new : List CallEdge) → i < length stmts → stmt ≡ get_or stmts i stmt
      → ((e : CallEdge) → Contains old e ↔ ((e.place < i) × IsCallIn cs lines caller stmts e))
      → ((e : CallEdge) → Contains new e ↔ (Contains old e ⊎ IsCallAt cs lines caller i stmt e))
      → (e : CallEdge) → Contains new e ↔ ((e.place < i + 1) × IsCallIn cs lines caller stmts e)
  stmt_more caller stmts i stmt old new within is before more e = (there, back) where
    there : Contains new e → (e.place < i + 1) × IsCallIn cs lines caller stmts e
    there has = elim ((more e).0 has) [
      | inl early ↦ (let less = ((before e).0 early).0 in omega (arith, less), ((before e).0 early).1)
      | inr h ↦ (let here = h.at in omega (arith, here), record { from = h.from; stmt = stmt; stands = subst (λ (p : ℕ). At stmts p stmt) (sym h.at) (within, sym is); call = h.call; is = h.is; comes = h.comes })
    ]

    back : (e.place < i + 1) × IsCallIn cs lines caller stmts e → Contains new e
    back (less, h) = elim (cases_eq e.place i) [
      | inl same ↦
          let one : h.stmt ≡ stmt = one_item stmts e.place i h.stmt stmt h.stands (within, sym is) same in
          (more e).1 (inr (record { from = h.from; at = same; call = h.call; is = subst (λ (s : Stmt). call_in s ≡ Some h.call) one h.is; comes = h.comes }))
      | inr other ↦ (more e).1 (inl ((before e).1 ((omega (arith, less, other)), h)))
    ]

  pub stmts_all : (caller : MethodId) (stmts : List Stmt) (i : ℕ) (calls : List CallEdge) → length stmts ≤ i
      → ((e : CallEdge) → Contains calls e ↔ ((e.place < i) × IsCallIn cs lines caller stmts e)) → (e : CallEdge) → Contains calls e ↔ IsCallIn cs lines caller stmts e
  stmts_all caller stmts i calls past before e = (λ has. ((before e).0 has).1, λ h. (before e).1 (let below = h.stands.0 in omega (arith, below, past), h))

  -- the calls of a method with a body are those in its statements
  pub body_calls : (caller : MethodId) (class : Class) (method : Method) (body : Body) (e : CallEdge) → IsNumber cs caller class method → method.body ≡ Some body
      → IsCallIn cs lines caller body.stmts e ↔ ((e.caller ≡ caller) × IsCall cs lines e)
  body_calls caller class method body e number is = (there, back) where
    there : IsCallIn cs lines caller body.stmts e → (e.caller ≡ caller) × IsCall cs lines e
    there h = (
      h.from,
      record {
        class = class;
        method = method;
        body = body;
        stmt = h.stmt;
        call = h.call;
        number = subst (λ (m : MethodId). IsNumber cs m class method) (sym h.from) number;
        has_body = is;
        stands = h.stands;
        is = h.is;
        comes = h.comes;
      },
    )

    back : (e.caller ≡ caller) × IsCall cs lines e → IsCallIn cs lines caller body.stmts e
    back (from, h) =
        let pair = one_item (all_methods cs) e.caller.0 caller.0 (h.class, h.method) (class, method) h.number number (ap (λ (m : MethodId). m.0) from) in
        let one : h.method ≡ method = ap (λ (p : Class × Method). p.1) pair in
        let same : h.body ≡ body = same_Some h.body body (sym h.has_body ∙ ap (λ (m : Method). m.body) one ∙ is) in
        record { from = from; stmt = h.stmt; stands = subst (λ (b : Body). At b.stmts e.place h.stmt) same h.stands; call = h.call; is = h.is; comes = h.comes }

  -- and it has none without one
  pub no_body : (caller : MethodId) (class : Class) (method : Method) (e : CallEdge) → IsNumber cs caller class method → method.body ≡ None → (e.caller ≡ caller) × IsCall cs lines e → ⊥
  no_body caller class method e number none (from, h) =
      let pair = one_item (all_methods cs) e.caller.0 caller.0 (h.class, h.method) (class, method) h.number number (ap (λ (m : MethodId). m.0) from) in
      let clash : Some h.body ≡ None = sym h.has_body ∙ ap (λ (p : Class × Method). p.1.body) pair ∙ none in
      cc

  pub listed_calls : (caller : MethodId) (class : Class) (method : Method) (body : Body) (stmts : List Stmt) (edges : List CallEdge) → IsNumber cs caller class method → method.body ≡ Some body
      → stmts ≡ body.stmts → ((e : CallEdge) → Contains edges e ↔ IsCallIn cs lines caller stmts e) → (e : CallEdge) → Contains edges e ↔ ((e.caller ≡ caller) × IsCall cs lines e)
  listed_calls caller class method body stmts edges number is are exact e =
      let own = body_calls caller class method body e number is in
      let listed : Contains edges e ↔ IsCallIn cs lines caller body.stmts e = subst (λ (ss : List Stmt). Contains edges e ↔ IsCallIn cs lines caller ss e) are (exact e) in
      (λ has. own.0 (listed.0 has), λ h. listed.1 (own.1 h))

  -- targets are numbers of methods
  target_number : (kind : InvokeKind) (sig : Sig) (n : MethodId) → IsTargetOf cs kind sig n → n.0 < length (all_methods cs)
  target_number kinds.Static sig n h = h.number.0
  target_number kinds.Special sig n h = h.number.0
  target_number kinds.Virtual sig n h = h.3.number.0
  target_number kinds.Interface sig n h = h.3.number.0

  pub targets_within : (edges : List CallEdge) → ((e : CallEdge) → Contains edges e → IsCall cs lines e) → All (λ (e : CallEdge). e.target.0 < length (all_methods cs)) edges
  targets_within edges are k d below =
      let e = get_or edges k d in
      let h = are e (Contains-get_or edges k d below) in
      target_number h.call.kind h.call.sig e.target h.comes.target

-- a method's statements are no more than those of all
pub few_stmts : (cs : List Class) (n : ℕ) (class : Class) (method : Method) (body : Body) → At (all_methods cs) n (class, method) → method.body ≡ Some body → length body.stmts ≤ length (stmts_in cs)
few_stmts cs n class method body at is = by (number_from cs n class method at) where
  by : ((p : ℕ) × (k : ℕ) × At cs p class × At class.methods k method × (is_some method.body ≡ true) × (n ≡ before cs p class k)) → length body.stmts ≤ length (stmts_in cs)
  by (p, k, here, own, some, number) =
      let outer = length-flat_map-take (λ (c : Class). all_stmts c.methods) cs p class here.0 in
      let inner = length-flat_map-take stmts_of class.methods k method own.0 in
      let one = ap (λ (c : Class). length (all_stmts c.methods)) here.1 in
      let two = ap (λ (m : Method). length (stmts_of m)) own.1 in
      let stmts = ap (λ (b : Option Body). length (body_stmts b)) is in
      omega (arith, outer, inner, one, two, stmts)
