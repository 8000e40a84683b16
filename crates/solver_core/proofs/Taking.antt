-- One move that is taken in, by numbers.
use Rattle.std.specs.Prelude.{◌≡◌, ◌⊎◌, ◌<◌, ◌+◌, ℕ, List, [], ◌∷◌, ◌++◌, length, map, Contains, Option}
use Rattle.std.proofs.Common.{sym, ◌∙◌, ap, subst, inl, inr}
use Rattle.std.proofs.lemmas.List.{map-append}
use Rattle.std.proofs.lemmas.List.Elements.{Contains-append_left, Contains-push, Contains-push_cases}
use Rattle.entry_tables.specs.declared.tables.CallSite.{CallSite}
use Rattle.ifds_model.specs.declared.node.Context.{Context}
use Rattle.ifds_model.specs.declared.node.Frame.{Frame}
use Rattle.ifds_model.specs.declared.node.Item.{Item}
use Rattle.ifds_model.specs.declared.node.Node.{Node}
use Rattle.ifds_model.specs.declared.node.Move.TheVariants.{Go, Mark}
use Rattle.ifds_model.specs.Machine.{Machine}
use Rattle.ifds_model.specs.State.{View, IsDistinct, IsHeld}
use Rattle.ifds_model.specs.Events.{TakesIn}
use Rattle.solver_core.specs.Numbers.{view_of, context_at, item_of, frame_of, AreNumbers, HasNumbersBelow}
use Rattle.solver_core.specs.Store.{Held, Spot, spot}
use Rattle.solver_core.specs.declared.pending.Pending.{Pending}
use Rattle.solver_core.specs.declared.pending.Pending.TheVariants.{Edge as PendingEdge}
use Rattle.solver_core.proofs.Alike.{alike, takes_alike}
use Rattle.solver_core.proofs.Numbered.{fresh_frame, from_map, in_map}
use Rattle.solver_core.proofs.OneMove.{gone, takes_go, takes_mark, one_already}

module _ {F M : Type 0} (P : Machine F M) (cs : List (Context F)) (callers : List (List CallSite)) (exits : List (List F)) (flights : List (Option (Pending F))) (context : ℕ) where
  abbrev here : Context F
  here = context_at P.root cs context

  abbrev at_edges : List M → ℕ → ℕ → ℕ → ℕ → ℕ → Held F → List (Pending F) → View F M
  at_edges marks commits lag takes period max_edges edges queue = view_of P.root cs callers exits edges queue flights marks commits lag takes period max_edges

  -- an edge comes to those that are held, or is one of them
  module _ (edges now : Held F) (node : Node) (fact : F) (there : Contains now.edges (spot context node fact)) (kept : (t : Spot F) → Contains edges.edges t → Contains now.edges t)
      (from : (t : Spot F) → Contains now.edges t → Contains edges.edges t ⊎ (t ≡ spot context node fact)) where
    abbrev new : Spot F
    new = spot context node fact

    abbrev frame : Spot F → Frame F
    frame = frame_of P.root cs

    still : (a : Frame F) → Contains (map frame edges.edges) a → Contains (map frame now.edges) a
    still a has = let t = from_map frame edges.edges a has in subst (λ (x : Frame F). Contains (map frame now.edges) x) (sym t.2) (in_map frame now.edges t.0 (kept t.0 t.1))

    now_or_new : (a : Frame F) → Contains (map frame now.edges) a → Contains (map frame edges.edges) a ⊎ (frame new ≡ a)
    now_or_new a has =
        let t = from_map frame now.edges a has in
        elim (from t.0 t.1) [
          | inl was ↦ inl (subst (λ (x : Frame F). Contains (map frame edges.edges) x) (sym t.2) (in_map frame edges.edges t.0 was))
          | inr is ↦ inr (sym (t.2 ∙ ap frame is))
        ]

    pub went : (queue later : List (Pending F)) → AreNumbers cs callers exits edges queue flights → context < length cs → (Contains edges.edges new → ⊥)
        → now.found ≡ edges.found + 1 → later ≡ queue ++ PendingEdge context node fact ∷ []
        → (marks : List M) (commits lag takes period max_edges : ℕ) → TakesIn P here (λ m. m ≡ Go node fact) (at_edges marks commits lag takes period max_edges edges queue) (at_edges marks commits lag takes period max_edges now later)
    went queue later fit below fresh found queued marks commits lag takes period max_edges =
        let s : View F M = at_edges marks commits lag takes period max_edges edges queue in
        let work : Pending F = PendingEdge context node fact in
        let held : List (Frame F) = map frame now.edges in
        let not_held = fresh_frame P.root cs fit.distinct edges.edges new fit.edges_in below fresh in
        let ideal : View F M = gone P here s node fact not_held in
        let into : (a : Frame F) → IsHeld ideal a → Contains held a =
        λ a has. elim (Contains-push_cases s.held (frame new) a has) [ inl was ↦ still a was | inr same ↦ subst (λ (x : Frame F). Contains held x) same (in_map frame now.edges new there) ] in
        let back : (a : Frame F) → Contains held a → IsHeld ideal a =
        λ a has. elim (now_or_new a has) [ inl was ↦ Contains-append_left s.held (frame new ∷ []) a was | inr same ↦ subst (λ (x : Frame F). IsHeld ideal x) same (Contains-push s.held (frame new)) ] in
        let same : at_edges marks commits lag takes period max_edges now later ≡ alike P here (λ m. m ≡ Go node fact) s ideal held into back =
        ap (λ (q : List (Pending F)). at_edges marks commits lag takes period max_edges now q) queued
        ∙ ap (λ (q : List (Item F)). record (at_edges marks commits lag takes period max_edges now (queue ++ work ∷ [])) { queue = q }) (map-append (item_of P.root cs) queue (work ∷ []))
        ∙ ap (λ (n : ℕ). record s { held = held; queue = map (item_of P.root cs) queue ++ item_of P.root cs work ∷ []; found = n }) found in
        subst (λ (v : View F M). TakesIn P here (λ m. m ≡ Go node fact) s v) (sym same) (takes_alike P here (λ m. m ≡ Go node fact) s ideal held into back (takes_go P here s node fact not_held))

    pub was_there : (queue : List (Pending F)) → Contains edges.edges new → now.found ≡ edges.found
        → (marks : List M) (commits lag takes period max_edges : ℕ) → TakesIn P here (λ m. m ≡ Go node fact) (at_edges marks commits lag takes period max_edges edges queue) (at_edges marks commits lag takes period max_edges now queue)
    was_there queue has found marks commits lag takes period max_edges =
        let s : View F M = at_edges marks commits lag takes period max_edges edges queue in
        let held : List (Frame F) = map frame now.edges in
        let back : (a : Frame F) → Contains held a → IsHeld s a =
        λ a in_now. elim (now_or_new a in_now) [ inl was ↦ was | inr same ↦ subst (λ (x : Frame F). IsHeld s x) same (in_map frame edges.edges new has) ] in
        subst (λ (n : ℕ). TakesIn P here (λ m. m ≡ Go node fact) s (record s { held = held; found = n })) (sym found)
        (takes_alike P here (λ m. m ≡ Go node fact) s s held still back (one_already P here s (Go node fact) (in_map frame edges.edges new has)))

  pub marked : (edges : Held F) (queue : List (Pending F)) (marks more : List M) (mark : M) → more ≡ marks ++ mark ∷ []
      → (commits lag takes period max_edges : ℕ) → TakesIn P here (λ m. m ≡ Mark mark) (at_edges marks commits lag takes period max_edges edges queue) (at_edges more commits lag takes period max_edges edges queue)
  marked edges queue marks more mark is commits lag takes period max_edges =
      let s : View F M = at_edges marks commits lag takes period max_edges edges queue in
      subst (λ (ms : List M). TakesIn P here (λ m. m ≡ Mark mark) s (at_edges ms commits lag takes period max_edges edges queue)) (sym is) (takes_mark P here s mark)

-- numbers stay in range
module _ {F : Type 0} (cs : List (Context F)) (callers : List (List CallSite)) (exits : List (List F)) (flights : List (Option (Pending F))) where
  module _ (edges now : Held F) (queue : List (Pending F)) (context : ℕ) (node : Node) (fact : F) (below : context < length cs) (once : IsDistinct now.edges)
      (from : (t : Spot F) → Contains now.edges t → Contains edges.edges t ⊎ (t ≡ spot context node fact)) (fit : AreNumbers cs callers exits edges queue flights) where
    pub was_fit : AreNumbers cs callers exits now queue flights
    was_fit = record {
      workers = fit.workers;
      distinct = fit.distinct;
      callers_long = fit.callers_long;
      exits_long = fit.exits_long;
      once = once;
      edges_in = λ t has. elim (from t has) [ inl was ↦ fit.edges_in t was | inr same ↦ subst (λ (u : Spot F). u.context < length cs) (sym same) below ];
      queue_in = fit.queue_in;
      flights_in = fit.flights_in;
      callers_in = fit.callers_in;
    }

    pub went_fit : (later : List (Pending F)) → later ≡ queue ++ PendingEdge context node fact ∷ [] → AreNumbers cs callers exits now later flights
    went_fit later queued = record {
      workers = fit.workers;
      distinct = fit.distinct;
      callers_long = fit.callers_long;
      exits_long = fit.exits_long;
      once = once;
      edges_in = was_fit.edges_in;
      queue_in = λ w has. elim (Contains-push_cases queue (PendingEdge context node fact) w (subst (λ (q : List (Pending F)). Contains q w) queued has)) [
        | inl was ↦ fit.queue_in w was
        | inr same ↦ subst (HasNumbersBelow (length cs)) same below
      ];
      flights_in = fit.flights_in;
      callers_in = fit.callers_in;
    }
