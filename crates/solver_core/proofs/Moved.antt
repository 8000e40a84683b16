-- Works that are taken and given back, seen as items.
use Rattle.std.specs.Prelude.{◌≡◌, ◌≤◌, ◌<◌, ℕ, suc, ◌+◌, ◌-◌, ◌^◌, ◌⊎◌, min, List, [], ◌∷◌, ◌++◌, length, map, remove, slice_set, slice_index_or, Option, Some, None}
use Rattle.std.proofs.Common.{arith, sym, ◌∙◌, ap, subst, inl, inr, refl}
use Rattle.std.proofs.Math.ListN.{length-set}
use Rattle.std.proofs.lemmas.List.{length-map, map-append, map-set}
use Rattle.std.proofs.lemmas.List.Elements.{Contains-push_cases}
use Rattle.clean_base.specs.declared.ids.MethodId.{MethodId}
use Rattle.entry_tables.specs.declared.tables.CallSite.{CallSite}
use Rattle.ifds_model.specs.declared.node.Context.{Context}
use Rattle.ifds_model.specs.declared.node.Item.{Item}
use Rattle.ifds_model.specs.Machine.{Machine}
use Rattle.ifds_model.specs.State.{View, At}
use Rattle.ifds_model.specs.Events.{Takes, GivesBack}
use Rattle.indexmap.proofs.SetLemmas.{map-remove}
use Rattle.ifds_model.proofs.Members.{at_set, removed_was}
use Rattle.ifds_model.proofs.Requeued.{some_same, take_kept, back_kept}
use Rattle.solver_core.specs.Answers.{IsIdle, IsOver}
use Rattle.solver_core.specs.Hands.{in_hand}
use Rattle.solver_core.specs.Numbers.{view_of, item_of, flight_of, AreNumbers, HasNumbersBelow}
use Rattle.solver_core.specs.Seen.{IsRight}
use Rattle.solver_core.specs.declared.answer.Job.{Job}
use Rattle.solver_core.specs.declared.answer.Taken.TheVariants.{Took}
use Rattle.solver_core.specs.Store.{Held}
use Rattle.solver_core.specs.declared.pending.Pending.{Pending}
use Rattle.solver_core.proofs.Flown.{at_map, at_map_from, none_in_hand}

no_flight : {F : Type 0} (root : Context F) (cs : List (Context F)) (o : Option (Pending F)) → flight_of root cs o ≡ None → o ≡ None
no_flight root cs None same = refl
no_flight root cs (Some v) same = cc (same)

no_items : {X : Type 0} (xs : List X) → length xs ≡ 0 → xs ≡ []
no_items [] none = refl
no_items (x ∷ xs) none = absurd (omega (arith, none))

-- a flight that is none of the view is none of the numbers
pub idle_work : {F : Type 0} (root : Context F) (cs : List (Context F)) (flights : List (Option (Pending F))) (w : ℕ) → At (map (flight_of root cs) flights) w None → At flights w None
idle_work {F} root cs flights w at =
    let here = at_map_from (flight_of root cs) flights w None None at in
    (here.0, no_flight root cs (slice_index_or flights w None) here.1)

module _ {F M : Type 0} (root : Context F) (cs : List (Context F)) (callers : List (List CallSite)) (exits : List (List F)) (edges : Held F) (marks : List M) (commits lag period max_edges : ℕ) where
  abbrev seen : List (Pending F) → List (Option (Pending F)) → ℕ → View F M
  seen queue flights takes = view_of root cs callers exits edges queue flights marks commits lag takes period max_edges

  -- a work that is taken from its place
  pub sent : (queue rest : List (Pending F)) (flights now : List (Option (Pending F))) (v : Pending F) (w place takes more : ℕ) → At queue place v → rest ≡ remove queue place → now ≡ slice_set flights w (Some v) → more ≡ min (takes + 1) (2 ^ 64 - 1)
      → At (map (flight_of root cs) flights) w None → Takes w place (seen queue flights takes) (seen rest now more)
  sent queue rest flights now v w place takes more there left set is idle = record {
    item = item_of root cs v;
    idle = idle;
    at = at_map (item_of root cs) queue place v there;
    is = ap (λ (q : List (Pending F)). seen q now more) left
        ∙ ap (λ (fs : List (Option (Pending F))). seen (remove queue place) fs more) set
        ∙ ap (λ (n : ℕ). seen (remove queue place) (slice_set flights w (Some v)) n) is
        ∙ ap (λ (fs : List (Option (Item F))). record (seen (remove queue place) flights (min (takes + 1) (2 ^ 64 - 1))) { flights = fs }) (map-set (flight_of root cs) flights w (Some v))
        ∙ ap (λ (q : List (Item F)). record (seen queue flights (min (takes + 1) (2 ^ 64 - 1))) { queue = q; flights = slice_set (map (flight_of root cs) flights) w (Some (item_of root cs v)) }) (map-remove (item_of root cs) queue place);
  }

  pub named_there : (queue : List (Pending F)) (v : Pending F) (place : ℕ) (item : Item F) → At queue place v → item ≡ item_of root cs v → At (map (item_of root cs) queue) place item
  named_there queue v place item there is = subst (At (map (item_of root cs) queue) place) (sym is) (at_map (item_of root cs) queue place v there)

  pub returned : (queue now : List (Pending F)) (flights left : List (Option (Pending F))) (v : Pending F) (w takes : ℕ) → now ≡ queue ++ v ∷ [] → left ≡ slice_set flights w None → At flights w (Some v)
      → GivesBack w (seen queue flights takes) (seen now left takes)
  returned queue now flights left v w takes last set flies = record {
    item = item_of root cs v;
    flies = at_map (flight_of root cs) flights w (Some v) flies;
    is = ap (λ (q : List (Pending F)). seen q left takes) last ∙ ap (λ (fs : List (Option (Pending F))). seen (queue ++ v ∷ []) fs takes) set
        ∙ ap (λ (fs : List (Option (Item F))). record (seen (queue ++ v ∷ []) flights takes) { flights = fs }) (map-set (flight_of root cs) flights w None)
        ∙ ap (λ (q : List (Item F)). record (seen queue flights takes) { queue = q; flights = slice_set (map (flight_of root cs) flights) w None }) (map-append (item_of root cs) queue (v ∷ []));
  }

  -- no work stands at the place of one that waits, or first: none waits
  none_waits : (queue : List (Pending F)) (place : ℕ) → (place < length (map (item_of root cs) queue)) ⊎ (place ≡ 0) → length queue ≤ place → length queue ≡ 0
  none_waits queue place (inl within) beyond = omega (arith, within, beyond, length-map queue (item_of root cs))
  none_waits queue place (inr first) beyond = omega (arith, first, beyond)

  pub still : (queue left : List (Pending F)) (flights : List (Option (Pending F))) (takes : ℕ) → left ≡ queue → seen left flights takes ≡ seen queue flights takes
  still queue left flights takes stays = ap (λ (q : List (Pending F)). seen q flights takes) stays

  same_hands : (flights : List (Option (Pending F))) → in_hand flights ≡ in_hand (map (flight_of root cs) flights)
  same_hands [] = refl
  same_hands (None ∷ fs) = same_hands fs
  same_hands (Some v ∷ fs) = ap suc (same_hands fs)

  pub waits : (queue left : List (Pending F)) (flights : List (Option (Pending F))) (place takes n out : ℕ) → (place < length (map (item_of root cs) queue)) ⊎ (place ≡ 0) → length queue ≤ place → left ≡ queue → 1 ≤ n → n ≡ out → out ≡ in_hand flights
      → IsIdle (seen queue flights takes) n × (seen left flights takes ≡ seen queue flights takes)
  waits queue left flights place takes n out chosen beyond stays one is count =
      let none = none_waits queue place chosen beyond in
      ((no_items (map (item_of root cs) queue) (omega (arith, none, length-map queue (item_of root cs))), one, is ∙ count ∙ same_hands flights), still queue left flights takes stays)

  pub over : (queue left : List (Pending F)) (flights : List (Option (Pending F))) (place takes out : ℕ) → (place < length (map (item_of root cs) queue)) ⊎ (place ≡ 0) → length queue ≤ place → left ≡ queue → out ≡ 0 → out ≡ in_hand flights
      → IsOver (seen queue flights takes) × (seen left flights takes ≡ seen queue flights takes)
  over queue left flights place takes out chosen beyond stays zero count = (
    λ item pending. elim pending [
      | inl queued ↦ omega (arith, queued.1, none_waits queue place chosen beyond, length-map queue (item_of root cs))
      | inr flies ↦ none_in_hand (map (flight_of root cs) flights) item (sym (same_hands flights) ∙ sym count ∙ zero) flies
    ],
    still queue left flights takes stays,
  )

-- a job is what was answered
pub took : {X F M : Type 0} (w place : ℕ) (old new : View F M) (item : Item F) (number : ℕ) → Takes w place old new → At old.queue place item → number ≡ new.takes
    → (job : Job X F M) → (let made : Job X F M = record { item = item; take = number } in Took made ≡ Took job) → Takes w place old new × At old.queue place job.item × (job.take ≡ new.takes)
took {X} {F} {M} w place old new item number takes at is job same =
    let made : Job X F M = record { item = item; take = number } in
    let one : made ≡ job = cc (same) in
    subst (λ (j : Job X F M). Takes w place old new × At old.queue place j.item × (j.take ≡ new.takes)) one (takes, at, is)

module _ {F : Type 0} (cs : List (Context F)) (callers : List (List CallSite)) (exits : List (List F)) (edges : Held F) where
  abbrev Fit : List (Pending F) → List (Option (Pending F)) → Type 0
  Fit queue flights = AreNumbers cs callers exits edges queue flights

  sent_fit_now : (queue : List (Pending F)) (flights : List (Option (Pending F))) (v : Pending F) (w place : ℕ) → At queue place v → w < length flights → Fit queue flights → Fit (remove queue place) (slice_set flights w (Some v))
  sent_fit_now queue flights v w place there below fit = record {
    workers = omega (arith, fit.workers, length-set {A = Option (Pending F)});
    distinct = fit.distinct;
    callers_long = fit.callers_long;
    exits_long = fit.exits_long;
    once = fit.once;
    edges_in = fit.edges_in;
    queue_in = λ u has. fit.queue_in u (removed_was queue place v there u has);
    flights_in = λ u has. elim (at_set flights w has.0 (Some v) (Some u) below (has.1, has.2)) [
      | inl same ↦ subst (HasNumbersBelow (length cs)) (sym (some_same u v same.1)) (fit.queue_in v (place, there.0, there.1))
      | inr other ↦ fit.flights_in u (has.0, other.1.0, other.1.1)
    ];
    callers_in = fit.callers_in;
  }

  pub sent_fit : (queue rest : List (Pending F)) (flights now : List (Option (Pending F))) (v : Pending F) (w place : ℕ) → At queue place v → rest ≡ remove queue place → now ≡ slice_set flights w (Some v) → w < length flights → Fit queue flights → Fit rest now
  sent_fit queue rest flights now v w place there left set below fit = subst (λ (q : List (Pending F)). Fit q now) (sym left) (subst (Fit (remove queue place)) (sym set) (sent_fit_now queue flights v w place there below fit))

  returned_fit_now : (queue : List (Pending F)) (flights : List (Option (Pending F))) (v : Pending F) (w : ℕ) → At flights w (Some v) → Fit queue flights → Fit (queue ++ v ∷ []) (slice_set flights w None)
  returned_fit_now queue flights v w flies fit = record {
    workers = omega (arith, fit.workers, length-set {A = Option (Pending F)});
    distinct = fit.distinct;
    callers_long = fit.callers_long;
    exits_long = fit.exits_long;
    once = fit.once;
    edges_in = fit.edges_in;
    queue_in = λ u has. elim (Contains-push_cases queue v u has) [
      | inl was ↦ fit.queue_in u was
      | inr same ↦ subst (HasNumbersBelow (length cs)) same (fit.flights_in v (w, flies.0, flies.1))
    ];
    flights_in = λ u has. elim (at_set flights w has.0 None (Some u) flies.0 (has.1, has.2)) [
      | inl same ↦ let other = same.1 in cc (other)
      | inr other ↦ fit.flights_in u (has.0, other.1.0, other.1.1)
    ];
    callers_in = fit.callers_in;
  }

  pub returned_fit : (queue now : List (Pending F)) (flights left : List (Option (Pending F))) (v : Pending F) (w : ℕ) → now ≡ queue ++ v ∷ [] → left ≡ slice_set flights w None → At flights w (Some v) → Fit queue flights → Fit now left
  returned_fit queue now flights left v w last set flies fit = subst (λ (q : List (Pending F)). Fit q left) (sym last) (subst (Fit (queue ++ v ∷ [])) (sym set) (returned_fit_now queue flights v w flies fit))

-- both events keep what is so of every state
module _ {F M : Type 0} (P : Machine F M) (reaches : MethodId → MethodId → Type 0) (old new : View F M) (right : IsRight P reaches old) where
  pub take_right : (w place : ℕ) → Takes w place old new → IsRight P reaches new
  take_right w place takes = let kept = take_kept P reaches old new right.sound right.tidy right.lag w place takes in record { sound = kept.0; tidy = kept.1; lag = kept.2 }

  pub back_right : (w : ℕ) → GivesBack w old new → IsRight P reaches new
  back_right w gives = let kept = back_kept P reaches old new right.sound right.tidy right.lag w gives in record { sound = kept.0; tidy = kept.1; lag = kept.2 }
