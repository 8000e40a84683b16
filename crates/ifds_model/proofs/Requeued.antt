-- Taking an item, and giving it back, keep a state sound: the same items are pending, each once.
use Rattle.std.specs.Prelude.{◌↔◌, ◌≡◌, ◌≢◌, ◌⊎◌, ◌+◌, ◌-◌, ◌^◌, min, ℕ, List, [], ◌∷◌, ◌++◌, remove, slice_set, Contains, Option, Some, None}
use Rattle.std.proofs.Common.{sym, ◌∙◌, subst, inl, inr}
use Rattle.std.proofs.lemmas.List.Elements.{Contains-push, Contains-push_cases, Contains-append_left, Contains-get_or}
use Rattle.std.proofs.lemmas.List.Quantifiers.{all_pairs_push, all_pairs_remove}
use Rattle.clean_base.specs.declared.ids.MethodId.{MethodId}
use Rattle.ifds_model.specs.declared.node.Frame.{Frame}
use Rattle.ifds_model.specs.declared.node.Item.{Item}
use Rattle.ifds_model.specs.declared.node.Item.TheVariants.{Join}
use Rattle.ifds_model.specs.Machine.{Machine}
use Rattle.ifds_model.specs.State.{View, At, IsOnce, IsTidy, edge_item, IsPending}
use Rattle.ifds_model.specs.Sound.{IsSound, IsDone}
use Rattle.ifds_model.specs.Free.{KeepsLag}
use Rattle.ifds_model.specs.Events.{Takes, GivesBack}
use Rattle.ifds_model.proofs.Members.{at_one, at_set, at_set_same, at_set_other, same_number_or_not, without, removed_was, removed_apart, same_count}

module _ {F M : Type 0} (s : View F M) (queue : List (Item F)) (flights : List (Option (Item F))) (takes : ℕ) where
  abbrev requeued : View F M
  requeued = record s { queue = queue; flights = flights; takes = takes }

  -- the same items are pending, each once
  pub record IsRequeued : Type 0 where
    pub there : (item : Item F) → IsPending s item → IsPending requeued item
    pub back : (item : Item F) → IsPending requeued item → IsPending s item
    pub once : IsOnce requeued

  module _ (r : IsRequeued) where
    pub done_there : (P : Machine F M) (a : Frame F) → IsDone P s a → IsDone P requeued a
    done_there P a (inl done) = inl (done.0, λ pending. done.1 (r.back (edge_item a) pending))
    done_there P a (inr gone) = inr gone

    pub done_back : (P : Machine F M) (a : Frame F) → IsDone P requeued a → IsDone P s a
    done_back P a (inl done) = inl (done.0, λ pending. done.1 (r.there (edge_item a) pending))
    done_back P a (inr gone) = inr gone

    pub requeued_sound : (P : Machine F M) → IsSound P s → IsSound P requeued
    requeued_sound P sound = record {
      entries = record { root = sound.entries.root; contexts = sound.entries.contexts; callers = sound.entries.callers; exits = sound.entries.exits };
      held = record {
        edges = sound.held.edges;
        starts = sound.held.starts;
        pending_edges = λ a pending. sound.held.pending_edges a (r.back (edge_item a) pending);
        pending_joins = λ e at d x pending. sound.held.pending_joins e at d x (r.back (Join e at d x) pending);
        once = r.once;
      };
      worked = λ a held. elim (sound.worked a held) [
        | inl pending ↦ inl (r.there (edge_item a) pending)
        | inr each ↦ inr (λ pending. each.0 (r.back (edge_item a) pending), each.1)
      ];
      joined = λ d e at x call exit. elim (sound.joined d e at x call exit) [
        | inl retired ↦ inl retired
        | inr other ↦ inr (elim other [ inl pending ↦ inl (r.there (Join e at d x) pending) | inr each ↦ inr each ])
      ];
      retired = record {
        items = λ item pending. sound.retired.items item (r.back item pending);
        calls = sound.retired.calls;
        exits = sound.retired.exits;
        marks = sound.retired.marks;
      };
      counts = record {
        found = sound.counts.found;
        within = sound.counts.within;
        commits = same_count (IsDone P s) (IsDone P requeued) s.commits (done_there P) (done_back P) sound.counts.commits;
      };
      leaks = sound.leaks;
    }

    pub requeued_lag : (reaches : MethodId → MethodId → Type 0) → KeepsLag reaches s → KeepsLag reaches requeued
    requeued_lag reaches lag = record {
      within = lag.within;
      swept = λ zero m freed. lag.swept zero m (record { free = λ item pending. freed.free item (r.there item pending); edge = freed.edge; held = freed.held; method = freed.method });
    }

-- a flight that is set to an item, or emptied
module _ {X : Type 0} where
  pub none_apart : (x : X) → (let none : Option X = None in none ≡ Some x) → ⊥
  none_apart x same = cc (same)

  pub some_same : (x y : X) → (let a : Option X = Some x in a ≡ Some y) → x ≡ y
  some_same x y same = cc (same)

  module _ (flights : List (Option X)) (worker : ℕ) where
    -- a flight other than an idle one's stays
    pub flight_stays : (x : X) → At flights worker None → (y : X) (v : ℕ) → At flights v (Some y) → At (slice_set flights worker (Some x)) v (Some y)
    flight_stays x idle y v flies = at_set_other flights worker v (Some x) (Some y) (λ same. none_apart y (at_one flights worker None (Some y) idle (subst (λ (k : ℕ). At flights k (Some y)) same flies))) flies

    -- a flight of the emptied list is another worker's
    pub emptied_other : (x : X) → At flights worker (Some x) → (y : X) (v : ℕ) → At (slice_set flights worker None) v (Some y) → (v ≢ worker) × At flights v (Some y)
    emptied_other x flew y v flies = elim (at_set flights worker v None (Some y) flew.0 flies) [
      | inl same ↦ absurd (none_apart y (sym same.1))
      | inr other ↦ other
    ]

    -- each flight is the emptied one or stays
    pub emptied_or_stays : (x : X) → At flights worker (Some x) → (y : X) (v : ℕ) → At flights v (Some y) → (x ≡ y) ⊎ At (slice_set flights worker None) v (Some y)
    emptied_or_stays x flew y v flies = elim (same_number_or_not v worker) [
      | inl same ↦ inl (some_same x y (at_one flights worker (Some x) (Some y) flew (subst (λ (k : ℕ). At flights k (Some y)) same flies)))
      | inr other ↦ inr (at_set_other flights worker v None (Some y) other flies)
    ]

module _ {F M : Type 0} (P : Machine F M) (old : View F M) (once : IsOnce old) where
  -- an item that is taken
  module _ (worker place : ℕ) (item : Item F) (idle : At old.flights worker None) (at : At old.queue place item) where
    now_flies : At (slice_set old.flights worker (Some item)) worker (Some item)
    now_flies = at_set_same old.flights worker (Some item) idle.0

    take_there : (i : Item F) → IsPending old i → Contains (remove old.queue place) i ⊎ Contains (slice_set old.flights worker (Some item)) (Some i)
    take_there i (inl queued) = elim (without old.queue place item at i queued) [
      | inl same ↦ inr (subst (λ (k : Item F). Contains (slice_set old.flights worker (Some item)) (Some k)) same (worker, now_flies.0, now_flies.1))
      | inr left ↦ inl left
    ]
    take_there i (inr flies) = let still = flight_stays old.flights worker item idle i flies.0 (flies.1, flies.2) in inr (flies.0, still.0, still.1)

    left_queued : (i : Item F) → Contains (remove old.queue place) i → Contains old.queue i
    left_queued i left = removed_was old.queue place item at i left

    flew : (i : Item F) (v : ℕ) → At (slice_set old.flights worker (Some item)) v (Some i) → ((v ≡ worker) × (i ≡ item)) ⊎ At old.flights v (Some i)
    flew i v flies = elim (at_set old.flights worker v (Some item) (Some i) idle.0 flies) [
      | inl same ↦ inl (same.0, some_same i item same.1)
      | inr other ↦ inr other.1
    ]

    take_back : (i : Item F) → Contains (remove old.queue place) i ⊎ Contains (slice_set old.flights worker (Some item)) (Some i) → IsPending old i
    take_back i (inl left) = inl (left_queued i left)
    take_back i (inr flies) = elim (flew i flies.0 (flies.1, flies.2)) [
      | inl same ↦ inl (subst (λ (k : Item F). Contains old.queue k) (sym same.1) (place, at.0, at.1))
      | inr other ↦ inr (flies.0, other.0, other.1)
    ]

    -- the taken item was in the queue, so in no flight
    not_flown : (i : Item F) → i ≡ item → (v : ℕ) → At old.flights v (Some i) → ⊥
    not_flown i same v flies = once.apart i (subst (λ (k : Item F). Contains old.queue k) (sym same) (place, at.0, at.1)) (v, flies.0, flies.1)

    take_once : (takes : ℕ) → IsOnce (record old { queue = remove old.queue place; flights = slice_set old.flights worker (Some item); takes = takes })
    take_once takes = record {
      queue = all_pairs_remove (λ a b. a ≢ b) old.queue place at.0 once.queue;
      flights = λ i v w one two. elim (flew i v one) [
        | inl here ↦ elim (flew i w two) [ inl same ↦ here.0 ∙ sym same.0 | inr other ↦ absurd (not_flown i here.1 w other) ]
        | inr there ↦ elim (flew i w two) [ inl same ↦ absurd (not_flown i same.1 v there) | inr other ↦ once.flights i v w there other ]
      ];
      apart = λ i left flies. elim (flew i flies.0 (flies.1, flies.2)) [
        | inl same ↦ removed_apart old.queue once.queue place item at (subst (λ (k : Item F). Contains (remove old.queue place) k) same.1 left)
        | inr other ↦ once.apart i (left_queued i left) (flies.0, other.0, other.1)
      ];
    }

  -- an item that is given back
  module _ (worker : ℕ) (item : Item F) (flies : At old.flights worker (Some item)) where
    give_there : (i : Item F) → IsPending old i → Contains (old.queue ++ item ∷ []) i ⊎ Contains (slice_set old.flights worker None) (Some i)
    give_there i (inl queued) = inl (Contains-append_left old.queue (item ∷ []) i queued)
    give_there i (inr flew) = elim (emptied_or_stays old.flights worker item flies i flew.0 (flew.1, flew.2)) [
      | inl same ↦ inl (subst (λ (k : Item F). Contains (old.queue ++ item ∷ []) k) same (Contains-push old.queue item))
      | inr still ↦ inr (flew.0, still.0, still.1)
    ]

    give_back : (i : Item F) → Contains (old.queue ++ item ∷ []) i ⊎ Contains (slice_set old.flights worker None) (Some i) → IsPending old i
    give_back i (inl queued) = elim (Contains-push_cases old.queue item i queued) [
      | inl was ↦ inl was
      | inr same ↦ inr (subst (λ (k : Item F). Contains old.flights (Some k)) same (worker, flies.0, flies.1))
    ]
    give_back i (inr flew) = let was = emptied_other old.flights worker item flies i flew.0 (flew.1, flew.2) in inr (flew.0, was.1.0, was.1.1)

    give_once : IsOnce (record old { queue = old.queue ++ item ∷ []; flights = slice_set old.flights worker None })
    give_once = record {
      queue = all_pairs_push (λ a b. a ≢ b) old.queue item once.queue (λ k d below same. once.apart item (subst (λ (i : Item F). Contains old.queue i) same (Contains-get_or old.queue k d below)) (worker, flies.0, flies.1));
      flights = λ i v w one two. once.flights i v w (emptied_other old.flights worker item flies i v one).1 (emptied_other old.flights worker item flies i w two).1;
      apart = λ i queued flew.
          let was = emptied_other old.flights worker item flies i flew.0 (flew.1, flew.2) in
          elim (Contains-push_cases old.queue item i queued) [
            | inl in_queue ↦ once.apart i in_queue (flew.0, was.1.0, was.1.1)
            | inr same ↦ was.0 (once.flights i flew.0 worker was.1 (subst (λ (k : Item F). At old.flights worker (Some k)) same flies))
          ];
    }

module _ {F M : Type 0} (P : Machine F M) (reaches : MethodId → MethodId → Type 0) (old new : View F M) (sound : IsSound P old) (tidy : IsTidy old) (lag : KeepsLag reaches old) where
  -- what holds of a state of the machine at each moment
  abbrev Keeps : View F M → Type 0
  Keeps s = IsSound P s × IsTidy s × KeepsLag reaches s

  pub take_kept : (worker place : ℕ) → Takes worker place old new → Keeps new
  take_kept worker place t =
      let queue = remove old.queue place in
      let flights = slice_set old.flights worker (Some t.item) in
      let takes = min (old.takes + 1) (2 ^ 64 - 1) in
      let r : IsRequeued old queue flights takes = record {
        there = take_there P old sound.held.once worker place t.item t.idle t.at;
        back = take_back P old sound.held.once worker place t.item t.idle t.at;
        once = take_once P old sound.held.once worker place t.item t.idle t.at takes;
      } in
      subst Keeps (sym t.is) (requeued_sound old queue flights takes r P sound, record { held = tidy.held; known = tidy.known }, requeued_lag old queue flights takes r reaches lag)

  pub back_kept : (worker : ℕ) → GivesBack worker old new → Keeps new
  back_kept worker g =
      let queue = old.queue ++ g.item ∷ [] in
      let flights = slice_set old.flights worker None in
      let r : IsRequeued old queue flights old.takes = record {
        there = give_there P old sound.held.once worker g.item g.flies;
        back = give_back P old sound.held.once worker g.item g.flies;
        once = give_once P old sound.held.once worker g.item g.flies;
      } in
      subst Keeps (sym g.is) (requeued_sound old queue flights old.takes r P sound, record { held = tidy.held; known = tidy.known }, requeued_lag old queue flights old.takes r reaches lag)

  -- and what is done stays as it is
  pub take_done : (worker place : ℕ) → Takes worker place old new → (a : Frame F) → IsDone P old a ↔ IsDone P new a
  take_done worker place t a =
      let queue = remove old.queue place in
      let flights = slice_set old.flights worker (Some t.item) in
      let takes = min (old.takes + 1) (2 ^ 64 - 1) in
      let r : IsRequeued old queue flights takes = record {
        there = take_there P old sound.held.once worker place t.item t.idle t.at;
        back = take_back P old sound.held.once worker place t.item t.idle t.at;
        once = take_once P old sound.held.once worker place t.item t.idle t.at takes;
      } in
      subst (λ (s : View F M). IsDone P old a ↔ IsDone P s a) (sym t.is) (done_there old queue flights takes r P a, done_back old queue flights takes r P a)

  pub back_done : (worker : ℕ) → GivesBack worker old new → (a : Frame F) → IsDone P old a ↔ IsDone P new a
  back_done worker g a =
      let queue = old.queue ++ g.item ∷ [] in
      let flights = slice_set old.flights worker None in
      let r : IsRequeued old queue flights old.takes = record {
        there = give_there P old sound.held.once worker g.item g.flies;
        back = give_back P old sound.held.once worker g.item g.flies;
        once = give_once P old sound.held.once worker g.item g.flies;
      } in
      subst (λ (s : View F M). IsDone P old a ↔ IsDone P s a) (sym g.is) (done_there old queue flights old.takes r P a, done_back old queue flights old.takes r P a)
