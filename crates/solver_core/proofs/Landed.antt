-- A commit, by numbers: room was made, the worker's hand was emptied, and the moves were taken in.
use Rattle.std.specs.Prelude.{◌≡◌, ◌↔◌, ◌<◌, ◌≤◌, ℕ, ◌+◌, min, Bool, IsTrue, is_some, List, length, map, slice_set, slice_index_or, Contains, Option, Some, None, IfSome, IfNone}
use Rattle.std.specs.List.{sum_by}
use Rattle.std.proofs.Common.{arith, sym, ◌∙◌, ap, subst, inl, inr, refl}
use Rattle.std.proofs.Math.ListN.{length-set}
use Rattle.std.proofs.lemmas.List.{length-map, map-set}
use Rattle.clean_base.specs.declared.ids.MethodId.{MethodId}
use Rattle.entry_tables.specs.declared.tables.CallSite.{CallSite}
use Rattle.ifds_model.specs.declared.node.Context.{Context}
use Rattle.ifds_model.specs.declared.node.Frame.{Frame}
use Rattle.ifds_model.specs.declared.node.Item.{Item}
use Rattle.ifds_model.specs.declared.node.Move.{Move}
use Rattle.ifds_model.specs.Machine.{Machine}
use Rattle.ifds_model.specs.Count.{one_count}
use Rattle.ifds_model.specs.Outcome.{AreMovesOf}
use Rattle.ifds_model.specs.Runs.{HasCount}
use Rattle.ifds_model.specs.State.{View, At, context_of, MovesOf, IsHeld}
use Rattle.ifds_model.specs.Events.{commits_of, LeadsTo, TakesIn, landed, Commits}
use Rattle.ifds_model.proofs.Composed.{takes_both, takes_none}
use Rattle.ifds_model.proofs.Kept.{commit_kept}
use Rattle.ifds_model.proofs.Requeued.{none_apart}
use Rattle.ifds_model.proofs.Members.{same_count, at_one, at_set, any_default}
use Rattle.solver_core.specs.Answers.{IsStopped}
use Rattle.solver_core.specs.Gathered.{IsNew, IsNewTo, KeepsWithin, IsPassed}
use Rattle.solver_core.specs.Numbers.{context_at, frame_of, item_of, flight_of, place, view_of, AreNumbers, HasNumbersBelow}
use Rattle.solver_core.specs.Room.{IsOf, IsSame, edges_of}
use Rattle.solver_core.specs.Seen.{view_of_parts, AreFit, IsRight, TakesInParts}
use Rattle.solver_core.specs.declared.answer.CommitStop.{CommitStop}
use Rattle.solver_core.specs.declared.answer.CommitStop.TheVariants.{EdgeLimit, OutOfMemory}
use Rattle.solver_core.specs.declared.parts.Parts.{Parts}
use Rattle.solver_core.specs.declared.ready.Ready.{Ready}
use Rattle.solver_core.specs.Store.{Held}
use Rattle.solver_core.specs.declared.pending.Pending.{Pending}
use Rattle.solver_core.specs.declared.pending.Pending.TheVariants.{Edge as PendingEdge, Join as PendingJoin}
use Rattle.solver_core.proofs.Counted.{live_once}
use Rattle.solver_core.proofs.Flown.{at_map, at_map_from}
use Rattle.solver_core.proofs.Numbered.{in_map, from_map, one_spot}
use Rattle.solver_core.proofs.Spread.{map_distinct}

-- a hand that has a work has its item
pub flies_where : {F : Type 0} (root : Context F) (cs : List (Context F)) (flights : List (Option (Pending F))) (w : ℕ) (o : Option (Pending F)) (busy : Bool) → w < length (map (flight_of root cs) flights) → o ≡ slice_index_or flights w o → busy ≡ is_some o
    → IsTrue busy ↔ ((item : Item F) × At (map (flight_of root cs) flights) w (Some item))
flies_where {F} root cs flights w o busy below is tested = subst (λ (b : Bool). IsTrue b ↔ ((item : Item F) × At (map (flight_of root cs) flights) w (Some item))) (sym tested) (by o (omega (arith, length-map flights (flight_of root cs), below), sym is))
  where
    by : (p : Option (Pending F)) → At flights w p → IsTrue (is_some p) ↔ ((item : Item F) × At (map (flight_of root cs) flights) w (Some item))
    by (Some v) at = ((λ yes. (item_of root cs v, at_map (flight_of root cs) flights w (Some v) at)), (λ flies. refl))
    by None at = ((λ no. cc (no)), (λ flies. absurd (none_apart flies.0 (at_one (map (flight_of root cs) flights) w None (Some flies.0) (at_map (flight_of root cs) flights w None at) flies.1))))

-- what a hand holds, seen as an item
module _ {F : Type 0} (root : Context F) (cs : List (Context F)) (flights : List (Option (Pending F))) (w : ℕ) (item : Item F) (flies : At (map (flight_of root cs) flights) w (Some item)) where
  pub flown_below : w < length flights
  flown_below = (at_map_from (flight_of root cs) flights w (Some item) None flies).0

  seen : (o : Option (Pending F)) → At flights w o → flight_of root cs o ≡ Some item
  seen o at = sym (ap (flight_of root cs) (any_default flights w None o flown_below ∙ at.1)) ∙ (at_map_from (flight_of root cs) flights w (Some item) None flies).1

  pub not_idle : At flights w None → ⊥
  not_idle at = let same = seen None at in cc (same)

  pub flown_item : (work : Pending F) → At flights w (Some work) → item_of root cs work ≡ item
  flown_item work at = let same = seen (Some work) at in cc (same)

pub place_context : {F : Type 0} (root : Context F) (cs : List (Context F)) (work : Pending F) → context_at root cs (place work) ≡ context_of (item_of root cs work)
place_context root cs (PendingEdge c m f) = refl
place_context root cs (PendingJoin c at k x) = refl

pub place_within : {F : Type 0} (n : ℕ) (work : Pending F) → HasNumbersBelow n work → place work < n
place_within n (PendingEdge c m f) within = within
place_within n (PendingJoin c at k x) within = within.0

-- a hand that isn't idle gives its work
pub emptied_hand : {F : Type 0} (r : Option (Pending F)) (idle A : Type 0) → (idle → ⊥) → IfNone r idle → IfSome r (λ v. A) → A
emptied_hand None idle A busy none some = absurd (busy none)
emptied_hand (Some v) idle A busy none some = some

pub not_both : {X : Type 0} (flights : List (Option X)) (w : ℕ) (v : X) → At flights w (Some v) → At flights w None → ⊥
not_both flights w v busy idle = let same = at_one flights w (Some v) None busy idle in cc (same)

-- lag stays at the period
pub lag_is : (lag late next period top : ℕ) → next ≡ min (lag + 1) top → late ≡ min next period → period ≤ top → late ≡ min (lag + 1) period
lag_is lag late next period top sum least within = omega (arith, sum, least, within)

-- a hand that is emptied
pub emptied_fit : {F : Type 0} (cs : List (Context F)) (callers : List (List CallSite)) (exits : List (List F)) (edges : Held F) (queue : List (Pending F)) (flights now : List (Option (Pending F))) (w : ℕ) → w < length flights → now ≡ slice_set flights w None
    → AreNumbers cs callers exits edges queue flights → AreNumbers cs callers exits edges queue now
emptied_fit {F} cs callers exits edges queue flights now w below set fit = subst (AreNumbers cs callers exits edges queue) (sym set) (record {
  workers = omega (arith, fit.workers, length-set {A = Option (Pending F)});
  distinct = fit.distinct;
  callers_long = fit.callers_long;
  exits_long = fit.exits_long;
  once = fit.once;
  edges_in = fit.edges_in;
  queue_in = fit.queue_in;
  flights_in = λ u has. elim (at_set flights w has.0 None (Some u) below (has.1, has.2)) [
    | inl same ↦ let other = same.1 in cc (other)
    | inr other ↦ fit.flights_in u (has.0, other.1.0, other.1.1)
  ];
  callers_in = fit.callers_in;
})

module _ {F M : Type 0} (P : Machine F M) (s t : Parts F M) (same : IsSame s t) where
  -- the same lists are seen as the same
  pub same_view : (commits lag takes period max_edges : ℕ) → view_of_parts P t commits lag takes period max_edges ≡ view_of_parts P s commits lag takes period max_edges
  same_view commits lag takes period max_edges =
      ap (λ (x : List (Context F)). view_of P.root x t.tables.callers t.tables.exits t.edges.held t.queue.items t.flights.items t.marks.items commits lag takes period max_edges) same.contexts
      ∙ ap (λ (x : List (List CallSite)). view_of P.root s.tables.contexts x t.tables.exits t.edges.held t.queue.items t.flights.items t.marks.items commits lag takes period max_edges) same.callers
      ∙ ap (λ (x : List (List F)). view_of P.root s.tables.contexts s.tables.callers x t.edges.held t.queue.items t.flights.items t.marks.items commits lag takes period max_edges) same.exits
      ∙ ap (λ (x : Held F). view_of P.root s.tables.contexts s.tables.callers s.tables.exits x t.queue.items t.flights.items t.marks.items commits lag takes period max_edges) same.edges
      ∙ ap (λ (x : List (Pending F)). view_of P.root s.tables.contexts s.tables.callers s.tables.exits s.edges.held x t.flights.items t.marks.items commits lag takes period max_edges) same.queue
      ∙ ap (λ x. view_of P.root s.tables.contexts s.tables.callers s.tables.exits s.edges.held s.queue.items x.items t.marks.items commits lag takes period max_edges) same.flights
      ∙ ap (λ (x : List M). view_of P.root s.tables.contexts s.tables.callers s.tables.exits s.edges.held s.queue.items s.flights.items x commits lag takes period max_edges) same.marks

  pub same_fit : AreFit s → AreFit t
  same_fit fit =
      subst (λ (x : List (Context F)). AreNumbers x t.tables.callers t.tables.exits t.edges.held t.queue.items t.flights.items) (sym same.contexts)
      (subst (λ (x : List (List CallSite)). AreNumbers s.tables.contexts x t.tables.exits t.edges.held t.queue.items t.flights.items) (sym same.callers)
      (subst (λ (x : List (List F)). AreNumbers s.tables.contexts s.tables.callers x t.edges.held t.queue.items t.flights.items) (sym same.exits)
      (subst (λ (x : Held F). AreNumbers s.tables.contexts s.tables.callers s.tables.exits x t.queue.items t.flights.items) (sym same.edges)
      (subst (λ (x : List (Pending F)). AreNumbers s.tables.contexts s.tables.callers s.tables.exits s.edges.held x t.flights.items) (sym same.queue)
      (subst (λ x. AreNumbers s.tables.contexts s.tables.callers s.tables.exits s.edges.held s.queue.items x.items) (sym same.flights) fit)))))

-- moves that are the same are taken in alike
module _ {F M : Type 0} (P : Machine F M) (e : Context F) (f g : Move F M → Type 0) (there : (m : Move F M) → f m → g m) (back : (m : Move F M) → g m → f m) where
  taken_as : (old new : View F M) → TakesIn P e f old new → TakesIn P e g old new
  taken_as old new t = takes_both P e f (λ m. ⊥) g old new new (λ m is. inl (back m is)) there (λ m none. absurd none) t (takes_none P e (λ m. ⊥) new (λ m none. none))

  leads_as : (s : View F M) (a : Frame F) → LeadsTo P e f s a → LeadsTo P e g s a
  leads_as s a (inl go) = inl (go.0, go.1, there _ go.2, go.3)
  leads_as s a (inr call) = inr (call.0, call.1, call.2, there _ call.3, call.4, call.5, call.6)

-- the newly held edges are those to which the moves lead
module _ {F M : Type 0} (P : Machine F M) (e : Context F) (f : Move F M → Type 0) (old new : View F M) (t : TakesIn P e f old new) where
  newly_led : (a : Frame F) → IsHeld new a × (IsHeld old a → ⊥) → IsNew P e f old a
  newly_led a is = elim (t.held_from a is.0) [ inl was ↦ absurd (is.1 was) | inr leads ↦ (leads, is.1) ]

  led_held : (a : Frame F) → LeadsTo P e f old a → IsHeld new a
  led_held a (inl go) = subst (IsHeld new) (sym go.3) (t.taken _ go.2)
  led_held a (inr call) = elim (t.started call.1 (t.taken _ call.3).0) [
    | inl was ↦ absurd (call.4 was)
    | inr each ↦ subst (IsHeld new) (sym call.6) (each call.2 call.5)
  ]

  more_is : (k : ℕ) → HasCount (IsNew P e f old) k → t.more ≡ k
  more_is k count = one_count (IsNew P e f old) t.more k (same_count (λ a. IsHeld new a × (IsHeld old a → ⊥)) (IsNew P e f old) t.more newly_led (λ a is. (led_held a is.0, is.1)) t.counted) count

module _ {F M : Type 0} (P : Machine F M) (s t : Parts F M) (same : IsSame s t) (context : ℕ) (item : Item F) (moves : List (Move F M)) (here : context_at P.root s.tables.contexts context ≡ context_of item) (exact : AreMovesOf P item moves) where
  -- counts of new edges are those of the item's moves
  counts_as : (commits lag takes period max_edges k : ℕ) → HasCount (IsNewTo P s context (λ m. Contains moves m)) k → HasCount (IsNew P (context_of item) (MovesOf P item) (view_of_parts P s commits lag takes period max_edges)) k
  counts_as commits lag takes period max_edges k count =
      let v : View F M = view_of_parts P s commits lag takes period max_edges in
      subst (λ (e : Context F). HasCount (IsNew P e (MovesOf P item) v) k) here
      (same_count (IsNewTo P s context (λ m. Contains moves m)) (IsNew P (context_at P.root s.tables.contexts context) (MovesOf P item) v) k
      (λ a is. (leads_as P (context_at P.root s.tables.contexts context) (λ m. Contains moves m) (MovesOf P item) (λ m. (exact m).0) (λ m. (exact m).1) v a is.0, is.1))
      (λ a is. (leads_as P (context_at P.root s.tables.contexts context) (MovesOf P item) (λ m. Contains moves m) (λ m. (exact m).1) (λ m. (exact m).0) v a is.0, is.1))
      count)

  -- a stop by numbers is one of the view
  pub stopped_as : (commits lag takes period max_edges : ℕ) (e : CommitStop) → IsPassed P s context moves max_edges e → IsStopped P item (view_of_parts P s commits lag takes period max_edges) e
  stopped_as commits lag takes period max_edges (EdgeLimit found) passed = ((passed.0.0, counts_as commits lag takes period max_edges passed.0.0 passed.0.1, passed.0.2), passed.1)
  stopped_as commits lag takes period max_edges OutOfMemory passed = tt

  module _ (w : ℕ) (mid new : Parts F M) (rs : List (Ready F M)) (commits lag takes period max_edges counted late : ℕ)
      (tables : mid.tables ≡ t.tables) (edges : mid.edges ≡ t.edges) (queue : mid.queue ≡ t.queue) (marks : mid.marks ≡ t.marks) (emptied : mid.flights.items ≡ slice_set t.flights.items w None)
      (steps : map (λ r. r.step) rs ≡ moves) (taken : TakesInParts P context (IsOf rs) mid new) (counts : counted ≡ commits + commits_of item) (lags : late ≡ min (lag + 1) period)
      (flies : At (view_of_parts P s commits lag takes period max_edges).flights w (Some item)) where
    abbrev Old : View F M
    Old = view_of_parts P s commits lag takes period max_edges

    abbrev New : View F M
    New = view_of_parts P new counted late takes period max_edges

    mid_view : view_of_parts P mid counted late takes period max_edges ≡ landed w item Old
    mid_view =
        ap (λ x. view_of P.root x.contexts x.callers x.exits mid.edges.held mid.queue.items mid.flights.items mid.marks.items counted late takes period max_edges) tables
        ∙ ap (λ x. view_of P.root t.tables.contexts t.tables.callers t.tables.exits x.held mid.queue.items mid.flights.items mid.marks.items counted late takes period max_edges) edges
        ∙ ap (λ x. view_of P.root t.tables.contexts t.tables.callers t.tables.exits t.edges.held x.items mid.flights.items mid.marks.items counted late takes period max_edges) queue
        ∙ ap (λ x. view_of P.root t.tables.contexts t.tables.callers t.tables.exits t.edges.held t.queue.items mid.flights.items x.items counted late takes period max_edges) marks
        ∙ ap (λ (x : List (Option (Pending F))). view_of P.root t.tables.contexts t.tables.callers t.tables.exits t.edges.held t.queue.items x t.marks.items counted late takes period max_edges) emptied
        ∙ ap (λ (x : List (Option (Item F))). record (view_of_parts P t counted late takes period max_edges) { flights = x }) (map-set (flight_of P.root t.tables.contexts) t.flights.items w None)
        ∙ ap (λ (v : View F M). record v { flights = slice_set v.flights w None }) (same_view P s t same counted late takes period max_edges)
        ∙ ap (λ (n : ℕ). record Old { flights = slice_set Old.flights w None; commits = n; lag = late }) counts
        ∙ ap (λ (n : ℕ). record Old { flights = slice_set Old.flights w None; commits = commits + commits_of item; lag = n }) lags

    there : (m : Move F M) → IsOf rs m → MovesOf P item m
    there m of = (exact m).0 (subst (λ (ms : List (Move F M)). Contains ms m) steps (subst (λ (x : Move F M). Contains (map (λ r. r.step) rs) x) (sym of.2) (in_map (λ r. r.step) rs of.0 of.1)))

    back : (m : Move F M) → MovesOf P item m → IsOf rs m
    back m is = from_map (λ r. r.step) rs m (subst (λ (ms : List (Move F M)). Contains ms m) (sym steps) ((exact m).1 is))

    mid_context : context_at P.root mid.tables.contexts context ≡ context_of item
    mid_context = ap (λ x. context_at P.root x.contexts context) tables ∙ ap (λ (x : List (Context F)). context_at P.root x context) same.contexts ∙ here

    takes_in : TakesIn P (context_of item) (MovesOf P item) (landed w item Old) New
    takes_in =
        taken_as P (context_of item) (IsOf rs) (MovesOf P item) there back (landed w item Old) New
        (subst (λ (v : View F M). TakesIn P (context_of item) (IsOf rs) v New) mid_view
        (subst (λ (e : Context F). TakesIn P e (IsOf rs) (view_of_parts P mid counted late takes period max_edges) New) mid_context
        (taken counted late takes period max_edges)))

    within : KeepsWithin P s context moves (sum_by edges_of rs) max_edges → new.edges.held.found ≤ mid.edges.held.found + sum_by edges_of rs → new.edges.held.found ≤ max_edges
    within (inl few) held = omega (arith, few, held, ap (λ x. x.held.found) edges, ap (λ x. x.found) same.edges)
    within (inr count) held = omega (arith, count.2, takes_in.found, more_is P (context_of item) (MovesOf P item) (landed w item Old) New takes_in count.0 (counts_as commits lag takes period max_edges count.0 count.1))

    pub committed : KeepsWithin P s context moves (sum_by edges_of rs) max_edges → new.edges.held.found ≤ mid.edges.held.found + sum_by edges_of rs → Commits P w Old New
    committed limit held = record { item = item; flies = flies; takes_in = takes_in; within = within limit held }

    -- and what is so of every state stays
    pub commit_right : (reaches : MethodId → MethodId → Type 0) → IsRight P reaches Old → 1 ≤ period → AreFit new → Commits P w Old New → IsRight P reaches New
    commit_right reaches right some fit commit =
        let kept = commit_kept P Old right.sound reaches right.tidy w New some commit in
        record {
          sound = kept.0;
          tidy = record {
            held = map_distinct (frame_of P.root new.tables.contexts) new.edges.held.edges fit.once (λ x y in_x in_y. one_spot P.root new.tables.contexts fit.distinct x y (fit.edges_in x in_x) (fit.edges_in y in_y));
            known = live_once new.tables.contexts fit.distinct;
          };
          lag = kept.1;
        }
