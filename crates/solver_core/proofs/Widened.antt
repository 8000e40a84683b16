-- A context that gets the next number: what other numbers stand for stays, and one more context is known.
use Rattle.std.specs.Prelude.{◌≡◌, ◌≢◌, ◌<◌, ℕ, zero, suc, ◌+◌, List, [], ◌∷◌, ◌++◌, length, map, Contains, Option, Some, None}
use Rattle.std.proofs.Common.{arith, sym, ◌∙◌, ap, subst, refl}
use Rattle.std.proofs.lemmas.List.{map-append, length_push, get_or_append_left}
use Rattle.std.proofs.lemmas.List.Quantifiers.{all_pairs_push}
use Rattle.std.proofs.lemmas.List.Elements.{Contains-get_or}
use Rattle.entry_tables.specs.Lists.{list_at}
use Rattle.entry_tables.specs.declared.tables.CallSite.{CallSite}
use Rattle.ifds_model.specs.declared.node.Context.{Context}
use Rattle.ifds_model.specs.declared.node.Frame.{Frame}
use Rattle.ifds_model.specs.declared.node.Item.{Item}
use Rattle.ifds_model.specs.declared.node.Item.TheVariants.{Edge, Join}
use Rattle.ifds_model.specs.State.{View, Known, Exited, at_node}
use Rattle.ifds_model.specs.State.{Caller}
use Rattle.solver_core.specs.Numbers.{spread, view_of, context_at, frame_of, item_of, flight_of, waits_of, exited_of, live_of, AreNumbers, HasNumbersBelow}
use Rattle.solver_core.specs.Store.{Held, Spot}
use Rattle.solver_core.specs.declared.pending.Pending.{Pending}
use Rattle.solver_core.specs.declared.pending.Pending.TheVariants.{Edge as PendingEdge, Join as PendingJoin}

-- functions that agree on the members
map_same : {X Y : Type 0} (f g : X → Y) (xs : List X) → ((x : X) → Contains xs x → f x ≡ g x) → map f xs ≡ map g xs
map_same f g [] each = refl
map_same f g (x ∷ xs) each = ap (λ y. y ∷ map f xs) (each x (0, omega arith, refl)) ∙ ap (λ ys. g x ∷ ys) (map_same f g xs (λ y has. each y (suc has.0, omega (arith, has.1), has.2)))

module _ {K X Y : Type 0} where
  spread_push : (f : K → X → Y) (ks : List K) (rows : List (List X)) (k : K) → length rows ≡ length ks → spread f (ks ++ k ∷ []) (rows ++ [] ∷ []) ≡ spread f ks rows
  spread_push f [] [] k long = refl
  spread_push f [] (row ∷ rows) k long = absurd (omega (arith, long))
  spread_push f (c ∷ ks) [] k long = absurd (omega (arith, long))
  spread_push f (c ∷ ks) (row ∷ rows) k long = ap (λ ys. map (f c) row ++ ys) (spread_push f ks rows k (omega (arith, long)))

  spread_same : (f g : K → X → Y) (ks : List K) (rows : List (List X)) → ((n : ℕ) (k : K) (x : X) → Contains (list_at rows n) x → f k x ≡ g k x) → spread f ks rows ≡ spread g ks rows
  spread_same f g [] rows each = refl
  spread_same f g (c ∷ ks) [] each = refl
  spread_same f g (c ∷ ks) (row ∷ rows) each = ap (λ ys. ys ++ spread f ks rows) (map_same (f c) (g c) row (λ x has. each 0 c x has)) ∙ ap (λ ys. map (g c) row ++ ys) (spread_same f g ks rows (λ n k x has. each (suc n) k x has))

-- the lists of the old numbers, and none for the new one
list_was : {X : Type 0} (rows : List (List X)) (k : ℕ) (x : X) → Contains (list_at (rows ++ [] ∷ []) k) x → Contains (list_at rows k) x
list_was [] zero x has = absurd (omega (arith, has.1))
list_was [] (suc k) x has = absurd (omega (arith, has.1))
list_was (row ∷ rows) zero x has = has
list_was (row ∷ rows) (suc k) x has = list_was rows k x has

module _ {F : Type 0} (root : Context F) (cs : List (Context F)) (callers : List (List CallSite)) (exits : List (List F)) (edges : Held F) (queue : List (Pending F)) (flights : List (Option (Pending F))) (d : Context F)
    (fit : AreNumbers cs callers exits edges queue flights) where
  abbrev more : List (Context F)
  more = cs ++ d ∷ []

  same_context : (n : ℕ) → n < length cs → context_at root more n ≡ context_at root cs n
  same_context n below = get_or_append_left cs (d ∷ []) root n below

  same_frame : (s : Spot F) → Contains edges.edges s → frame_of root more s ≡ frame_of root cs s
  same_frame s has = ap (λ (e : Context F). at_node e s.node s.fact) (same_context s.context (fit.edges_in s has))

  same_item : (w : Pending F) → HasNumbersBelow (length cs) w → item_of root more w ≡ item_of root cs w
  same_item (PendingEdge c n f) within = ap (λ (e : Context F). let i : Item F = Edge e n f in i) (same_context c within)
  same_item (PendingJoin c at k x) within = ap (λ (e : Context F). let i : Item F = Join e at (context_at root more k) x in i) (same_context c within.0) ∙ ap (λ (e : Context F). let i : Item F = Join (context_at root cs c) at e x in i) (same_context k within.1)

  same_flight : (o : Option (Pending F)) → Contains flights o → flight_of root more o ≡ flight_of root cs o
  same_flight None has = refl
  same_flight (Some w) has = ap (λ (i : Item F). Some i) (same_item w (fit.flights_in w has))

  same_waits : spread (waits_of root more) more (callers ++ [] ∷ []) ≡ spread (waits_of root cs) cs callers
  same_waits = spread_push (waits_of root more) cs callers d fit.callers_long
      ∙ spread_same (waits_of root more) (waits_of root cs) cs callers (λ n k c has. ap (λ (e : Context F). let z : Caller F = record { callee = k; caller = e; call = c.call } in z) (same_context c.caller (fit.callers_in n c has)))

  pub widened : {M : Type 0} (marks : List M) (commits lag takes period max_edges : ℕ) → view_of root more (callers ++ [] ∷ []) (exits ++ [] ∷ []) edges queue flights marks commits lag takes period max_edges
      ≡ record (view_of root cs callers exits edges queue flights marks commits lag takes period max_edges) { known = map live_of cs ++ live_of d ∷ [] }
  widened {M} marks commits lag takes period max_edges =
      let new : View F M = view_of root more (callers ++ [] ∷ []) (exits ++ [] ∷ []) edges queue flights marks commits lag takes period max_edges in
      let old : View F M = view_of root cs callers exits edges queue flights marks commits lag takes period max_edges in
      ap (λ (x : List (Item F)). record new { queue = x }) (map_same (item_of root more) (item_of root cs) queue (λ w has. same_item w (fit.queue_in w has)))
      ∙ ap (λ (x : List (Option (Item F))). record new { queue = old.queue; flights = x }) (map_same (flight_of root more) (flight_of root cs) flights same_flight)
      ∙ ap (λ (x : List (Frame F)). record new { queue = old.queue; flights = old.flights; held = x }) (map_same (frame_of root more) (frame_of root cs) edges.edges same_frame)
      ∙ ap (λ (x : List (Known F)). record new { queue = old.queue; flights = old.flights; held = old.held; known = x }) (map-append live_of cs (d ∷ []))
      ∙ ap (λ (x : List (Caller F)). record old { known = map live_of cs ++ live_of d ∷ []; callers = x; exits = spread exited_of more (exits ++ [] ∷ []) }) same_waits
      ∙ ap (λ (x : List (Exited F)). record old { known = map live_of cs ++ live_of d ∷ []; exits = x }) (spread_push exited_of cs exits d fit.exits_long)

  wider : (n : ℕ) (w : Pending F) → HasNumbersBelow n w → HasNumbersBelow (n + 1) w
  wider n (PendingEdge c m f) within = omega (arith, within)
  wider n (PendingJoin c at k x) within = (omega (arith, within.0), omega (arith, within.1))

  within_now : (w : Pending F) → HasNumbersBelow (length cs) w → HasNumbersBelow (length more) w
  within_now w within = subst (λ (n : ℕ). HasNumbersBelow n w) (sym (length_push cs d)) (wider (length cs) w within)

  pub widened_fit : (Contains cs d → ⊥) → AreNumbers more (callers ++ [] ∷ []) (exits ++ [] ∷ []) edges queue flights
  widened_fit fresh = record {
    workers = fit.workers;
    distinct = all_pairs_push (λ (x y : Context F). x ≢ y) cs d fit.distinct (λ k e below same. fresh (subst (λ (x : Context F). Contains cs x) same (Contains-get_or cs k e below)));
    callers_long = omega (arith, length_push callers [], length_push cs d, fit.callers_long);
    exits_long = omega (arith, length_push exits [], length_push cs d, fit.exits_long);
    once = fit.once;
    edges_in = λ s has. omega (arith, length_push cs d, fit.edges_in s has);
    queue_in = λ w has. within_now w (fit.queue_in w has);
    flights_in = λ w has. within_now w (fit.flights_in w has);
    callers_in = λ k c has. omega (arith, length_push cs d, fit.callers_in k c (list_was callers k c has));
  }

  -- the same where the new tables are equal to these
  module _ (cs_now : List (Context F)) (callers_now : List (List CallSite)) (exits_now : List (List F)) (cs_is : cs_now ≡ cs ++ d ∷ []) (callers_is : callers_now ≡ callers ++ [] ∷ []) (exits_is : exits_now ≡ exits ++ [] ∷ []) where
    pub widened_as : {M : Type 0} (marks : List M) (commits lag takes period max_edges : ℕ) → view_of root cs_now callers_now exits_now edges queue flights marks commits lag takes period max_edges
        ≡ record (view_of root cs callers exits edges queue flights marks commits lag takes period max_edges) { known = map live_of cs ++ live_of d ∷ [] }
    widened_as {M} marks commits lag takes period max_edges =
        ap (λ (x : List (Context F)). view_of root x callers_now exits_now edges queue flights marks commits lag takes period max_edges) cs_is
        ∙ ap (λ (x : List (List CallSite)). view_of root more x exits_now edges queue flights marks commits lag takes period max_edges) callers_is
        ∙ ap (λ (x : List (List F)). view_of root more (callers ++ [] ∷ []) x edges queue flights marks commits lag takes period max_edges) exits_is
        ∙ widened marks commits lag takes period max_edges

    pub widened_fit_as : (Contains cs d → ⊥) → AreNumbers cs_now callers_now exits_now edges queue flights
    widened_fit_as fresh =
        subst (λ (x : List (Context F)). AreNumbers x callers_now exits_now edges queue flights) (sym cs_is)
        (subst (λ (x : List (List CallSite)). AreNumbers more x exits_now edges queue flights) (sym callers_is)
        (subst (λ (x : List (List F)). AreNumbers more (callers ++ [] ∷ []) x edges queue flights) (sym exits_is) (widened_fit fresh)))
