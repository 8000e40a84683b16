-- Events that are played, one after another.
use Rattle.std.specs.Prelude.{◌≡◌, ◌<◌, ◌+◌, ℕ, zero, suc, List, [], ◌∷◌, ◌++◌, length, take, drop, slice_set, slice_index_or, Option, Some, None, Result, Ok, Err, OnOk, IfErr}
use Rattle.std.proofs.Common.{arith, sym, ◌∙◌, ap, subst, inl, inr, refl}
use Rattle.std.proofs.Math.ListN.{length-set}
use Rattle.std.proofs.Math.Seq.{drop-cons}
use Rattle.std.proofs.lemmas.List.{take-append-drop, take_more}
use Rattle.clean_base.specs.declared.ids.MethodId.{MethodId}
use Rattle.ifds_model.specs.declared.event.Event.{Event}
use Rattle.ifds_model.specs.declared.event.Event.TheVariants.{Take, Commit, Back, Retire, Sweep}
use Rattle.ifds_model.specs.declared.node.Item.{Item}
use Rattle.ifds_model.specs.Machine.{Machine}
use Rattle.ifds_model.specs.State.{View, At}
use Rattle.ifds_model.specs.Events.{Takes, Commits}
use Rattle.solver_core.specs.Answers.{IsOver, IsIdle, IsStopped}
use Rattle.solver_core.specs.declared.answer.CommitStop.{CommitStop}
use Rattle.solver_core.specs.declared.answer.Job.{Job}
use Rattle.solver_core.specs.declared.answer.Taken.{Taken}
use Rattle.solver_core.specs.declared.answer.Taken.TheVariants.{Took, Idle, Finished}
use Rattle.core_driver.specs.Played.{IsStopOf, Plays, Played, IsStoppedAt}

some_at : {X : Type 0} (xs : List X) (n : ℕ) → n < length xs → (x : X) × At xs n x
some_at [] n below = absurd (omega (arith, below))
some_at (x ∷ xs) zero below = (x, (omega arith, refl))
some_at (x ∷ xs) (suc n) below = let rest = some_at xs n (omega (arith, below)) in (rest.0, (omega (arith, rest.1.0), rest.1.1))

module _ {F M : Type 0} (P : Machine F M) (reaches : MethodId → MethodId → Type 0) (old : View F M) (worker : ℕ) where
  -- a worker with nothing in hand takes an item that waits
  pub take_plays : {Q : Type 0} (place : ℕ) (new : View F M) (r : Taken Q F M) → At old.flights worker None → place < length old.queue
      → ((job : Job Q F M) → r ≡ Took job → Takes worker place old new × At old.queue place job.item × (job.take ≡ new.takes))
      → ((n : ℕ) → r ≡ Idle n → IsIdle old n × (new ≡ old)) → (r ≡ Finished → IsOver old × (new ≡ old)) → Plays P reaches (Take worker place) old new
  take_plays place new (Took job) idle within took waits over = inl ((idle, some_at old.queue place within), (took job refl).0)
  take_plays place new (Idle n) idle within took waits over =
      let none = ap (λ (xs : List (Item F)). length xs) (waits n refl).0.0 in
      absurd (omega (arith, none, within))
  take_plays place new Finished idle within took waits over =
      let item = some_at old.queue place within in
      absurd ((over refl).0 item.0 (inl (place, item.1.0, item.1.1)))

  -- a worker's item is committed, or its commit is refused
  pub commit_plays : {T : Type 0} (item : Item F) (new : View F M) (r : Result T CommitStop) → At old.flights worker (Some item) → OnOk r (Commits P worker old new) → OnOk r (Plays P reaches (Commit worker) old new)
  commit_plays item new (Ok x) flies did = inl ((item, flies), did)
  commit_plays item new (Err e) flies did = tt

  pub commit_stops : {T : Type 0} (item : Item F) (r : Result T CommitStop) → At old.flights worker (Some item) → IfErr r (λ e. IsStopped P item old e) → IfErr r (λ e. IsStopOf P (Commit worker) old e)
  commit_stops item (Ok x) flies stopped = tt
  commit_stops item (Err e) flies stopped = (item, flies, stopped)

module _ {F M : Type 0} (P : Machine F M) where
  module _ (reaches : MethodId → MethodId → Type 0) where
    pub plays_limit : (e : Event) (old new : View F M) → Plays P reaches e old new → new.max_edges ≡ old.max_edges
    plays_limit e old new (inr passed) = ap (λ (v : View F M). v.max_edges) passed.1
    plays_limit (Take worker place) old new (inl did) = ap (λ (v : View F M). v.max_edges) did.1.is
    plays_limit (Commit worker) old new (inl did) = ap (λ (v : View F M). v.max_edges) did.1.takes_in.rest
    plays_limit (Back worker) old new (inl did) = ap (λ (v : View F M). v.max_edges) did.1.is
    plays_limit (Retire method) old new (inl did) = absurd did.0
    plays_limit Sweep old new (inl did) = absurd did.0

    set_long : (flights : List (Option (Item F))) (worker : ℕ) (o : Option (Item F)) → length (slice_set flights worker o) ≡ length flights
    set_long flights worker o = omega (arith, length-set {A = Option (Item F)})

    pub plays_workers : (e : Event) (old new : View F M) → Plays P reaches e old new → length new.flights ≡ length old.flights
    plays_workers e old new (inr passed) = ap (λ (v : View F M). length v.flights) passed.1
    plays_workers (Take worker place) old new (inl did) = ap (λ (v : View F M). length v.flights) did.1.is ∙ set_long old.flights worker (Some did.1.item)
    plays_workers (Commit worker) old new (inl did) = ap (λ (v : View F M). length v.flights) did.1.takes_in.rest ∙ set_long old.flights worker None
    plays_workers (Back worker) old new (inl did) = ap (λ (v : View F M). length v.flights) did.1.is ∙ set_long old.flights worker None
    plays_workers (Retire method) old new (inl did) = absurd did.0
    plays_workers Sweep old new (inl did) = absurd did.0

    -- one event more
    played_more : (es : List Event) (e : Event) (old mid new : View F M) → Played P reaches es old mid → Plays P reaches e mid new → Played P reaches (es ++ e ∷ []) old new
    played_more [] e old mid new same did = (new, subst (λ (v : View F M). Plays P reaches e v new) same did, refl)
    played_more (d ∷ es) e old mid new played did = (played.0, played.1, played_more es e played.0 mid new played.2 did)

    pub played_next : (es : List Event) (i : ℕ) (d : Event) (old mid new : View F M) → i < length es → Played P reaches (take i es) old mid → Plays P reaches (slice_index_or es i d) mid new → Played P reaches (take (i + 1) es) old new
    played_next es i d old mid new below played did =
        subst (λ (xs : List Event). Played P reaches xs old new) (sym (take_more es i d below)) (played_more (take i es) (slice_index_or es i d) old mid new played did)

    parted : (es : List Event) (i : ℕ) (d e : Event) → i < length es → slice_index_or es i d ≡ e → es ≡ take i es ++ e ∷ drop (suc i) es
    parted es i d e below is = sym (take-append-drop i es) ∙ ap (λ (xs : List Event). take i es ++ xs) (drop-cons es i d below ∙ ap (λ (x : Event). x ∷ drop (suc i) es) is)

    -- a commit that is refused, where it stands in the list
    pub stopped_at : (es : List Event) (i : ℕ) (d e : Event) (old mid new : View F M) (stop : CommitStop) → i < length es → slice_index_or es i d ≡ e → Played P reaches (take i es) old mid → new ≡ mid → IsStopOf P e mid stop → IsStoppedAt P reaches es old new stop
    stopped_at es i d (Take worker place) old mid new stop below is played same stops = absurd stops
    stopped_at es i d (Commit worker) old mid new stop below is played same stops = record {
      before = take i es;
      worker = worker;
      behind = drop (suc i) es;
      parts = parted es i d (Commit worker) below is;
      played = subst (λ (v : View F M). Played P reaches (take i es) old v) (sym same) played;
      item = stops.0;
      flies = subst (λ (v : View F M). At v.flights worker (Some stops.0)) (sym same) stops.1;
      stopped = subst (λ (v : View F M). IsStopped P stops.0 v stop) (sym same) stops.2;
    }
    stopped_at es i d (Back worker) old mid new stop below is played same stops = absurd stops
    stopped_at es i d (Retire method) old mid new stop below is played same stops = absurd stops
    stopped_at es i d Sweep old mid new stop below is played same stops = absurd stops
