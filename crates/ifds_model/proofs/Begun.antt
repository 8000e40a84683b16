-- The state that `open` gives is sound, tidy, and keeps the laws on lag.
use Rattle.std.specs.Prelude.{◌≡◌, ◌↔◌, ◌≤◌, ℕ, false, true, List, [], ◌∷◌, replicate, Contains, Option, Some, None}
use Rattle.std.proofs.Common.{arith, sym, ◌∙◌, ap, subst, inl, inr, refl}
use Rattle.std.proofs.lemmas.List.Elements.{Contains-push, Contains-push_cases, All-replicate}
use Rattle.clean_base.specs.declared.ids.MethodId.{MethodId}
use Rattle.clean_base.specs.declared.ids.StmtId.{StmtId}
use Rattle.ifds_model.specs.declared.node.Context.{Context}
use Rattle.ifds_model.specs.declared.node.Frame.{Frame}
use Rattle.ifds_model.specs.declared.node.Item.{Item}
use Rattle.ifds_model.specs.declared.node.Item.TheVariants.{Join}
use Rattle.ifds_model.specs.declared.node.Node.{Node}
use Rattle.ifds_model.specs.Machine.{Machine}
use Rattle.ifds_model.specs.Runs.{opened, IsEdge}
use Rattle.ifds_model.specs.State.{View, Known, Caller, Exited, IsTidy, at_node, edge_item, context_of, IsLive, IsRetired, IsPending}
use Rattle.ifds_model.specs.Sound.{IsSound, IsFound, IsDone}
use Rattle.ifds_model.specs.Free.{KeepsLag}
use Rattle.ifds_model.specs.Events.{opening, IsOpened}
use Rattle.ifds_model.proofs.Members.{empty_count, one_member}

-- a list of one item has no other
only_one : {X : Type 0} (x y : X) → Contains (x ∷ []) y → y ≡ x
only_one {X} x y has = elim (Contains-push_cases [] x y has) [ inl none ↦ absurd (omega (arith, none.1)) | inr same ↦ sym same ]

the_one : {X : Type 0} (x y : X) → y ≡ x → Contains (x ∷ []) y
the_one {X} x y same = subst (λ (z : X). Contains (x ∷ []) z) (sym same) (Contains-push [] x)

no_member : {X : Type 0} (y : X) → (let no : List X = [] in Contains no y) → ⊥
no_member y has = omega (arith, has.1)

abbrev IsEmpty : {X : Type 0} → Option X → Type 0
IsEmpty None = Unit {0}
IsEmpty (Some x) = ⊥

-- workers with nothing in hand
no_flight : {X : Type 0} (n : ℕ) (x : X) → (let none : Option X = None in Contains (replicate n none) (Some x)) → ⊥
no_flight {X} n x has =
    let none : Option X = None in
    subst IsEmpty has.2 (All-replicate IsEmpty n none tt has.0 (Some x) has.1)

-- two edges with one item are the same
pub same_edge : {F : Type 0} (a b : Frame F) → edge_item a ≡ edge_item b → a ≡ b
same_edge {F} a b same =
    let nodes : a.node ≡ b.node = cc in
    let facts : a.fact ≡ b.fact = cc in
    let contexts : a.context ≡ b.context = cc in
    ap (λ (e : Context F). at_node e a.node a.fact) contexts ∙ ap (λ (n : Node). at_node b.context n a.fact) nodes ∙ ap (λ (f : F). at_node b.context b.node f) facts

-- a join is no edge
pub join_apart : {F : Type 0} (a : Frame F) (c : Context F) (at : StmtId) (d : Context F) (x : F) → (let j : Item F = Join c at d x in j ≡ edge_item a) → ⊥
join_apart a c at d x same = cc (same)

module _ {F M : Type 0} (P : Machine F M) (node : Node) (start : P.start P.root node) (only : (m : Node) → P.start P.root m → m ≡ node) (period max_edges workers : ℕ) where
  abbrev first : Frame F
  first = opened P.root node

  abbrev state : View F M
  state = opening P node period max_edges workers

  is_edge : IsEdge P first
  is_edge = record { last = record { top = first; below = [] }; earlier = []; run = record { node = node; starts = start; is = refl }; top = refl }

  root_live : IsLive state P.root
  root_live = the_one (let k : Known F = record { context = P.root; retired = false } in k) (record { context = P.root; retired = false }) refl

  live_is : (e : Context F) → IsLive state e → e ≡ P.root
  live_is e live = ap (λ (k : Known F). k.context) (only_one (let k : Known F = record { context = P.root; retired = false } in k) (record { context = e; retired = false }) live)

  none_retired : (e : Context F) → IsRetired state e → ⊥
  none_retired e retired = let no : true ≡ false = ap (λ (k : Known F). k.retired) (only_one (let k : Known F = record { context = P.root; retired = false } in k) (record { context = e; retired = true }) retired) in cc (no)

  pending_is : (item : Item F) → IsPending state item → item ≡ edge_item first
  pending_is item (inl in_queue) = only_one (edge_item first) item in_queue
  pending_is item (inr flies) = absurd (no_flight workers item flies)

  pub opening_sound : 1 ≤ max_edges → IsSound P state
  opening_sound limit = record {
    entries = record {
      root = inl root_live;
      contexts = λ e known. elim known [ inl live ↦ inl (live_is e live) | inr retired ↦ absurd (none_retired e retired) ];
      callers = λ d e at has. absurd (no_member (let c : Caller F = record { callee = d; caller = e; call = at } in c) has);
      exits = λ e x has. absurd (no_member (let c : Exited F = record { context = e; exit = x } in c) has);
    };
    held = record {
      edges = λ a held. subst (λ (b : Frame F). IsEdge P b × IsLive state b.context) (sym (only_one first a held)) (is_edge, root_live);
      starts = λ e n live starts.
          let same : e ≡ P.root = live_is e live in
          let here : n ≡ node = only n (subst (λ (d : Context F). P.start d n) same starts) in
          the_one first (opened e n) (ap (λ (d : Context F). opened d n) same ∙ ap (λ (k : Node). opened P.root k) here);
      pending_edges = λ a pending. the_one first a (same_edge a first (pending_is (edge_item a) pending));
      pending_joins = λ e at d x pending. absurd (join_apart first e at d x (pending_is (Join e at d x) pending));
      once = record {
        queue = λ i j d below within. absurd (omega arith);
        flights = λ item v w flies again. absurd (no_flight workers item (v, flies.0, flies.1));
        apart = λ item in_queue flies. no_flight workers item flies;
      };
    };
    worked = λ a held. inl (inl (the_one (edge_item first) (edge_item a) (ap (λ (b : Frame F). edge_item b) (only_one first a held))));
    joined = λ d e at x has exit. absurd (no_member (let c : Caller F = record { callee = d; caller = e; call = at } in c) has);
    retired = record {
      items = λ item pending retired. none_retired (context_of item) retired;
      calls = λ e retired at d calls. absurd (none_retired e retired);
      exits = λ e retired x exits. absurd (none_retired e retired);
      marks = λ a retired edge m move. absurd (none_retired a.context retired);
    };
    counts = record {
      found = one_member (IsFound P state) first (inl (the_one first first refl)) (λ a has. elim has [ inl held ↦ only_one first a held | inr gone ↦ absurd (none_retired a.context gone.0) ]);
      within = limit;
      commits = empty_count (IsDone P state) (λ a done. elim done [
        | inl held ↦ held.1 (inl (the_one (edge_item first) (edge_item a) (ap (λ (b : Frame F). edge_item b) (only_one first a held.0))))
        | inr gone ↦ none_retired a.context gone.0
      ]);
    };
    leaks = λ m has. absurd (no_member m has);
  }

  pub opening_tidy : IsTidy state
  opening_tidy = record { held = λ i j d below within. absurd (omega arith); known = λ i j d below within. absurd (omega arith) }

  pub opening_lag : (reaches : MethodId → MethodId → Type 0) → ((m : MethodId) → reaches m m) → KeepsLag reaches state
  opening_lag reaches itself = record {
    within = omega arith;
    swept = λ zero m freed.
        let here : P.root.method ≡ m = sym (ap (λ (a : Frame F). a.context.method) (only_one first freed.edge freed.held)) ∙ freed.method in
        freed.free (edge_item first) (inl (the_one (edge_item first) (edge_item first) refl)) (subst (λ (n : MethodId). reaches m n) (sym here) (itself m));
  }

-- what `open` gives
pub opened_sound : {F M : Type 0} (P : Machine F M) (period max_edges workers : ℕ) (s : View F M) → ((n : Node) × ((m : Node) → P.start P.root m ↔ (m ≡ n))) → 1 ≤ max_edges → IsOpened P period max_edges workers s → IsSound P s × IsTidy s
opened_sound {F} {M} P period max_edges workers s one limit o =
    let only : (m : Node) → P.start P.root m → m ≡ o.node = λ m starts. (one.1 m).0 starts ∙ sym ((one.1 o.node).0 o.starts) in
    subst (λ (t : View F M). IsSound P t × IsTidy t) (sym o.is) (opening_sound P o.node o.starts only period max_edges workers limit, opening_tidy P o.node o.starts only period max_edges workers)

pub opened_lag : {F M : Type 0} (P : Machine F M) (period max_edges workers : ℕ) (s : View F M) (reaches : MethodId → MethodId → Type 0) → ((m : MethodId) → reaches m m) → ((n : Node) × ((m : Node) → P.start P.root m ↔ (m ≡ n))) → IsOpened P period max_edges workers s → KeepsLag reaches s
opened_lag {F} {M} P period max_edges workers s reaches itself one o =
    let only : (m : Node) → P.start P.root m → m ≡ o.node = λ m starts. (one.1 m).0 starts ∙ sym ((one.1 o.node).0 o.starts) in
    subst (KeepsLag reaches) (sym o.is) (opening_lag P o.node o.starts only period max_edges workers reaches itself)
