-- The state that knows the root alone.
use Rattle.std.specs.Prelude.{◌≡◌, ◌⊎◌, ◌+◌, Bool, true, false, IsTrue, ◌↔◌, ◌≤◌, ◌<◌, ℕ, zero, suc, ◌^◌, List, [], ◌∷◌, length, map, replicate, Contains, Option, None}
use Rattle.std.proofs.Common.{arith, sym, ◌∙◌, ap, subst, inl, inr, refl}
use Rattle.std.proofs.lemmas.List.{length-replicate}
use Rattle.clean_base.specs.declared.ids.MethodId.{MethodId}
use Rattle.entry_tables.specs.Lists.{list_at}
use Rattle.entry_tables.specs.declared.tables.CallSite.{CallSite}
use Rattle.ifds_model.specs.declared.node.Context.{Context}
use Rattle.ifds_model.specs.declared.node.Item.{Item}
use Rattle.ifds_model.specs.declared.node.Node.{Node}
use Rattle.ifds_model.specs.Machine.{Machine}
use Rattle.ifds_model.specs.Count.{cons_cases}
use Rattle.ifds_model.specs.State.{View, IsDistinct}
use Rattle.ifds_model.specs.Events.{opening, IsOpened}
use Rattle.ifds_model.specs.Free.{KeepsLag}
use Rattle.ifds_model.proofs.Begun.{opened_sound, opening_lag}
use Rattle.solver_core.specs.Hands.{in_hand}
use Rattle.solver_core.specs.Numbers.{view_of, flight_of, AreNumbers, HasNumbersBelow}
use Rattle.solver_core.specs.Seen.{IsRight}
use Rattle.solver_core.specs.Store.{Held, Spot, spot, one_edge}
use Rattle.solver_core.specs.declared.pending.Pending.{Pending}
use Rattle.solver_core.specs.declared.pending.Pending.TheVariants.{Edge as PendingEdge}
use Rattle.solver_core.proofs.Flown.{none_in_hand}

idle_hands : (X : Type 0) (n : ℕ) → (let none : Option X = None in in_hand (replicate n none)) ≡ 0
idle_hands X zero = refl
idle_hands X (suc n) = idle_hands X n

idle_seen : {F : Type 0} (root : Context F) (cs : List (Context F)) (n : ℕ) → map (flight_of root cs) (let none : Option (Pending F) = None in replicate n none) ≡ (let none : Option (Item F) = None in replicate n none)
idle_seen root cs zero = refl
idle_seen {F} root cs (suc n) = ap (λ (fs : List (Option (Item F))). None ∷ fs) (idle_seen root cs n)

idle_long : (X : Type 0) (n : ℕ) → length (let none : Option X = None in replicate n none) ≡ n
idle_long X n = length-replicate n None

no_entry : (k : ℕ) (c : CallSite) → (let no : List CallSite = [] in Contains (list_at (no ∷ []) k) c) → ⊥
no_entry zero c has = omega (arith, has.1)
no_entry (suc k) c has = omega (arith, has.1)

none_left : {X : Type 0} (x : X) → (let no : List X = [] in Contains no x) → ⊥
none_left x has = omega (arith, has.1)

-- a list whose only member is there once
pub single : {X : Type 0} (xs : List X) (x : X) → IsDistinct xs → Contains xs x → ((y : X) → Contains xs y → y ≡ x) → xs ≡ x ∷ []
single [] x distinct has only = absurd (none_left x has)
single (y ∷ []) x distinct has only = ap (λ z. z ∷ []) (only y (0, omega arith, refl))
single (y ∷ z ∷ zs) x distinct has only = absurd (distinct 0 1 y (omega arith) (omega arith) (only y (0, omega arith, refl) ∙ sym (only z (1, omega arith, refl))))

-- the first edge of all
pub first_edge : {F : Type 0} (none kept now : Held F) (x : Spot F) (fresh : Bool) → none.edges ≡ [] → none.found ≡ 0 → kept ≡ none → (fresh ≡ false → Contains kept.edges x) → (IsTrue fresh → now.found ≡ kept.found + 1) → Contains now.edges x
    → ((y : Spot F) → Contains now.edges y → Contains kept.edges y ⊎ (y ≡ x)) → IsDistinct now.edges → now ≡ one_edge x
first_edge {F} none kept now x fresh empty zero_found same was more there from once =
    let edges : now.edges ≡ x ∷ [] = single now.edges x once there (λ y has. elim (from y has) [ inl old ↦ absurd (no_old y old) | inr is ↦ is ]) in
    ap (λ (es : List (Spot F)). let h : Held F = record { edges = es; found = now.found } in h) edges
    ∙ ap (λ (n : ℕ). let h : Held F = record { edges = x ∷ []; found = n } in h) (by fresh refl ∙ ap (λ (h : Held F). h.found + 1) same ∙ ap (λ (n : ℕ). n + 1) zero_found)
  where
    no_old : (y : Spot F) → Contains kept.edges y → ⊥
    no_old y has = none_left y (subst (λ (es : List (Spot F)). Contains es y) (ap (λ (h : Held F). h.edges) same ∙ empty) has)

    by : (b : Bool) → fresh ≡ b → now.found ≡ kept.found + 1
    by true is = more is
    by false is = absurd (no_old x (was is))

module _ {F M : Type 0} (P : Machine F M) (root : Context F) (same : root ≡ P.root) (node : Node) (workers : ℕ)
    (cs : List (Context F)) (callers : List (List CallSite)) (exits : List (List F)) (edges : Held F) (queue : List (Pending F)) (flights : List (Option (Pending F))) (marks : List M)
    (cs_is : cs ≡ root ∷ []) (callers_is : callers ≡ [] ∷ []) (exits_is : exits ≡ [] ∷ []) (edges_is : edges ≡ one_edge (spot 0 node root.fact)) (queue_is : queue ≡ PendingEdge 0 node root.fact ∷ [])
    (flights_is : flights ≡ replicate workers None) (marks_is : marks ≡ []) where
  pub begins : (period max_edges : ℕ) → P.start P.root node → IsOpened P period max_edges workers (view_of P.root cs callers exits edges queue flights marks 0 0 0 period max_edges)
  begins period max_edges start = record {
    node = node;
    starts = start;
    is = ap (λ (x : List (Context F)). view_of P.root x callers exits edges queue flights marks 0 0 0 period max_edges) (cs_is ∙ ap (λ (e : Context F). e ∷ []) same)
        ∙ ap (λ (x : List (List CallSite)). view_of P.root (P.root ∷ []) x exits edges queue flights marks 0 0 0 period max_edges) callers_is
        ∙ ap (λ (x : List (List F)). view_of P.root (P.root ∷ []) ([] ∷ []) x edges queue flights marks 0 0 0 period max_edges) exits_is
        ∙ ap (λ (x : Held F). view_of P.root (P.root ∷ []) ([] ∷ []) ([] ∷ []) x queue flights marks 0 0 0 period max_edges) (edges_is ∙ ap (λ (e : Context F). one_edge (spot 0 node e.fact)) same)
        ∙ ap (λ (x : List (Pending F)). view_of P.root (P.root ∷ []) ([] ∷ []) ([] ∷ []) (one_edge (spot 0 node P.root.fact)) x flights marks 0 0 0 period max_edges) (queue_is ∙ ap (λ (e : Context F). PendingEdge 0 node e.fact ∷ []) same)
        ∙ ap (λ (x : List (Option (Pending F))). view_of P.root (P.root ∷ []) ([] ∷ []) ([] ∷ []) (one_edge (spot 0 node P.root.fact)) (PendingEdge 0 node P.root.fact ∷ []) x marks 0 0 0 period max_edges) flights_is
        ∙ ap (λ (x : List M). view_of P.root (P.root ∷ []) ([] ∷ []) ([] ∷ []) (one_edge (spot 0 node P.root.fact)) (PendingEdge 0 node P.root.fact ∷ []) (replicate workers None) x 0 0 0 period max_edges) marks_is
        ∙ ap (λ (x : List (Option (Item F))). record (opening P node period max_edges workers) { flights = x }) (idle_seen P.root (P.root ∷ []) workers);
  }

  fits_first : workers < 2 ^ 32 → AreNumbers (root ∷ []) ([] ∷ []) (let no : List F = [] in no ∷ []) (one_edge (spot 0 node root.fact)) (PendingEdge 0 node root.fact ∷ []) (replicate workers None)
  fits_first few = record {
    workers = omega (arith, few, idle_long (Pending F) workers);
    distinct = λ i j d below within. absurd (omega arith);
    callers_long = refl;
    exits_long = refl;
    once = λ i j d below within. absurd (omega arith);
    edges_in = λ s has. elim (cons_cases (spot 0 node root.fact) [] s has) [ inl is ↦ subst (λ (t : Spot F). t.context < 1) is (omega arith) | inr later ↦ absurd (none_left s later) ];
    queue_in = λ w has. elim (cons_cases (let v : Pending F = PendingEdge 0 node root.fact in v) [] w has) [ inl is ↦ subst (HasNumbersBelow 1) is (omega arith) | inr later ↦ absurd (none_left w later) ];
    flights_in = λ w has. absurd (none_in_hand (replicate workers None) w (idle_hands (Pending F) workers) has);
    callers_in = λ k c has. absurd (no_entry k c has);
  }

  pub fits : workers < 2 ^ 32 → AreNumbers cs callers exits edges queue flights
  fits few =
      subst (λ (x : List (Context F)). AreNumbers x callers exits edges queue flights) (sym cs_is)
      (subst (λ (x : List (List CallSite)). AreNumbers (root ∷ []) x exits edges queue flights) (sym callers_is)
      (subst (λ (x : List (List F)). AreNumbers (root ∷ []) ([] ∷ []) x edges queue flights) (sym exits_is)
      (subst (λ (x : Held F). AreNumbers (root ∷ []) ([] ∷ []) ([] ∷ []) x queue flights) (sym edges_is)
      (subst (λ (x : List (Pending F)). AreNumbers (root ∷ []) ([] ∷ []) ([] ∷ []) (one_edge (spot 0 node root.fact)) x flights) (sym queue_is)
      (subst (λ (x : List (Option (Pending F))). AreNumbers (root ∷ []) ([] ∷ []) ([] ∷ []) (one_edge (spot 0 node root.fact)) (PendingEdge 0 node root.fact ∷ []) x) (sym flights_is) (fits_first few))))))

  pub no_hands : in_hand flights ≡ 0
  no_hands = ap in_hand flights_is ∙ idle_hands (Pending F) workers

pub opened_right : {F M : Type 0} (P : Machine F M) (reaches : MethodId → MethodId → Type 0) (period max_edges workers : ℕ) (s : View F M) → ((n : Node) × ((m : Node) → P.start P.root m ↔ (m ≡ n))) → ((m : MethodId) → reaches m m) → 1 ≤ max_edges
    → IsOpened P period max_edges workers s → IsRight P reaches s
opened_right {F} {M} P reaches period max_edges workers s one itself limit o =
    let both = opened_sound P period max_edges workers s one limit o in
    let only : (m : Node) → P.start P.root m → m ≡ o.node = λ m starts. (one.1 m).0 starts ∙ sym ((one.1 o.node).0 o.starts) in
    record { sound = both.0; tidy = both.1; lag = subst (λ (t : View F M). KeepsLag reaches t) (sym o.is) (opening_lag P o.node o.starts only period max_edges workers reaches itself) }
