-- A commit keeps a state sound: the item is no longer in hand, and its moves are taken in.
use Rattle.std.specs.Prelude.{◌↔◌, ◌≡◌, ◌≢◌, ◌⊎◌, ◌≤◌, ℕ, suc, ◌+◌, min, List, [], ◌∷◌, ◌++◌, slice_set, slice_index_or, Contains, AllPairs, Option, Some, None}
use Rattle.std.proofs.Common.{arith, sym, ◌∙◌, ap, subst, inl, inr, refl, length-append}
use Rattle.std.proofs.Math.Nat.{min-le_right, le-min}
use Rattle.std.proofs.lemmas.List.Kept.{AllPairs-cons}
use Rattle.std.proofs.lemmas.List.Elements.{All-append, Contains-get_or, Contains-push, Contains-append_left, Contains-append_right, Contains-append_cases, Contains-push_cases}
use Rattle.std.proofs.lemmas.List.Quantifiers.{all_pairs_push}
use Rattle.clean_base.specs.declared.ids.MethodId.{MethodId}
use Rattle.clean_base.specs.declared.ids.StmtId.{StmtId}
use Rattle.ifds_model.specs.declared.node.Context.{Context}
use Rattle.ifds_model.specs.declared.node.Frame.{Frame}
use Rattle.ifds_model.specs.declared.node.Item.{Item}
use Rattle.ifds_model.specs.declared.node.Item.TheVariants.{Edge, Join}
use Rattle.ifds_model.specs.declared.node.Node.{Node}
use Rattle.ifds_model.specs.declared.node.Move.{Move}
use Rattle.ifds_model.specs.declared.node.Move.TheVariants.{Go, Call, Exit, Mark}
use Rattle.ifds_model.specs.Machine.{Machine}
use Rattle.ifds_model.specs.Runs.{opened, IsEdge, IsContext, IsLeak, HasCount}
use Rattle.ifds_model.specs.Local.{starts, goes, returns, local_edge, edge_local}
use Rattle.ifds_model.specs.State.{View, At, IsDistinct, IsTidy, IsOnce, at_node, edge_item, context_of, MovesOf, IsHeld, IsLive, IsRetired, IsKnown, IsCaller, IsExit, IsMarked, IsPending}
use Rattle.ifds_model.specs.Sound.{IsSound, IsTaken, IsFound, IsDone, Calls, Exits}
use Rattle.ifds_model.specs.Free.{KeepsLag}
use Rattle.ifds_model.specs.Events.{commits_of, TakesIn, landed, Commits}
use Rattle.ifds_model.proofs.Begun.{same_edge, join_apart}
use Rattle.ifds_model.proofs.Quiet.{live_or_retired}
use Rattle.ifds_model.proofs.Requeued.{emptied_other, emptied_or_stays}

pub pairs_append : {X : Type 0} (R : X → X → Type 0) (xs ys : List X) → AllPairs R xs → AllPairs R ys → ((a b : X) → Contains xs a → Contains ys b → R a b) → AllPairs R (xs ++ ys)
pairs_append R [] ys in_xs in_ys cross = in_ys
pairs_append R (x ∷ xs) ys in_xs in_ys cross = AllPairs-cons R x (xs ++ ys)
    (All-append (R x) xs ys (λ k d below. in_xs 0 (suc k) d (omega arith) (omega arith)) (λ k d below. cross x (slice_index_or ys k d) (0, omega arith, refl) (Contains-get_or ys k d below)))
    (pairs_append R xs ys (λ i j d below within. in_xs (suc i) (suc j) d (omega arith) (omega arith)) in_ys (λ a b in_a in_b. cross a b (suc in_a.0, omega (arith, in_a.1), in_a.2) in_b))

-- what holds of an item in hand, an edge or a join: its context is live, and its moves are those of the machine there
pub record IsInHand {F M : Type 0} (P : Machine F M) (s : View F M) (item : Item F) : Type 0 where
  pub live : IsLive s (context_of item)
  pub goes : (n : Node) (f : F) → MovesOf P item (Go n f) → IsEdge P (at_node (context_of item) n f)
  pub calls : (at : StmtId) (d : Context F) → MovesOf P item (Call at d) → Calls P (context_of item) at d
  pub exits : (x : F) → MovesOf P item (Exit x) → Exits P (context_of item) x
  pub marks : (m : M) → MovesOf P item (Mark m) → IsLeak P m
  pub edge : (a : Frame F) → edge_item a ≡ item → (m : Move F M) → P.step a.node a.fact m → MovesOf P item m × (a.context ≡ context_of item)
  pub join : (c : Context F) (at : StmtId) (d : Context F) (x : F) → (let j : Item F = Join c at d x in j ≡ item) → (n : Node) (f : F) → P.back at x (Go n f) → MovesOf P item (Go n f) × (c ≡ context_of item)

module _ {F M : Type 0} (P : Machine F M) (old : View F M) (sound : IsSound P old) where
  edge_in_hand : (a : Frame F) → IsPending old (edge_item a) → IsInHand P old (edge_item a)
  edge_in_hand a pending =
      let is = sound.held.edges a (sound.held.pending_edges a pending) in
      record {
        live = is.1;
        goes = λ n f move. edge_local P (at_node a.context n f) (sound.entries.contexts a.context (inl is.1)) (goes (local_edge P a is.0) move);
        calls = λ at d move. record { node = a.node; fact = a.fact; edge = is.0; move = move };
        exits = λ x move. record { node = a.node; fact = a.fact; edge = is.0; move = move };
        marks = λ m move. (a, is.0, move);
        edge = λ b same m move.
            let nodes : b.node ≡ a.node = cc in
            let facts : b.fact ≡ a.fact = cc in
            let contexts : b.context ≡ a.context = cc in
            (subst (λ (f : F). P.step a.node f m) facts (subst (λ (n : Node). P.step n b.fact m) nodes move), contexts);
        join = λ c at d x same n f back. absurd (join_apart a c at d x same);
      }

  join_in_hand : (c : Context F) (at : StmtId) (d : Context F) (x : F) → IsPending old (Join c at d x) → IsInHand P old (Join c at d x)
  join_in_hand c at d x pending =
      let entry = sound.held.pending_joins c at d x pending in
      let known = sound.entries.callers d c at entry.0 in
      let call = known.2 in
      let exit = (sound.entries.exits d x entry.1).1 in
      let live : IsLive old c = elim known.1 [ inl live ↦ live | inr retired ↦ absurd (sound.retired.items (Join c at d x) pending retired) ] in
      record {
        live = live;
        goes = λ n f move.
            let nodes : move.0 ≡ n = cc (move.3) in
            let facts : move.1 ≡ f = cc (move.3) in
            let back : P.back at x (Go n f) = subst (λ (g : F). P.back at x (Go n g)) facts (subst (λ (k : Node). P.back at x (Go k move.1)) nodes move.2) in
            edge_local P (at_node c n f) (sound.entries.contexts c known.1) (returns (local_edge P (at_node c call.node call.fact) call.edge) call.move (local_edge P (at_node d exit.node exit.fact) exit.edge) exit.move back);
        calls = λ at d move. cc (move.3);
        exits = λ x move. cc (move.3);
        marks = λ m move. cc (move.3);
        edge = λ b same m move. absurd (join_apart b c at d x (sym same));
        join = λ e i g y same n f back.
            let calls : i ≡ at = cc in
            let exits : y ≡ x = cc in
            let contexts : e ≡ c = cc in
            ((n, f, subst (λ (u : F). P.back at u (Go n f)) exits (subst (λ (k : StmtId). P.back k y (Go n f)) calls back), refl), contexts);
      }

  pub in_hand : (item : Item F) → IsPending old item → IsInHand P old item
  in_hand (Edge c n f) pending = edge_in_hand (at_node c n f) pending
  in_hand (Join c at d x) pending = join_in_hand c at d x pending

  module _ (tidy : IsTidy old) (worker : ℕ) (item : Item F) (flies : At old.flights worker (Some item)) (new : View F M) (t : TakesIn P (context_of item) (MovesOf P item) (landed worker item old) new) where
    h : IsInHand P old item
    h = in_hand item (inr (worker, flies.0, flies.1))

    flights_now : new.flights ≡ slice_set old.flights worker None
    flights_now = ap (λ (v : View F M). v.flights) t.rest

    -- what is pending now was pending and isn't the item in hand, or was added
    pending_was : (i : Item F) → IsPending new i → (IsPending old i × (i ≢ item)) ⊎ Contains t.added i
    pending_was i (inl queued) = elim (Contains-append_cases old.queue t.added i (subst (λ (q : List (Item F)). Contains q i) t.queue queued)) [
      | inl was ↦ inl (inl was, λ same. sound.held.once.apart i was (subst (λ (k : Item F). Contains old.flights (Some k)) (sym same) (worker, flies.0, flies.1)))
      | inr added ↦ inr added
    ]
    pending_was i (inr flew) =
        let there = subst (λ (fs : List (Option (Item F))). Contains fs (Some i)) flights_now flew in
        let was = emptied_other old.flights worker item flies i there.0 (there.1, there.2) in
        inl (inr (there.0, was.1.0, was.1.1), λ same. was.0 (sound.held.once.flights i there.0 worker was.1 (subst (λ (k : Item F). At old.flights worker (Some k)) (sym same) flies)))

    added_now : (i : Item F) → Contains t.added i → IsPending new i
    added_now i added = inl (subst (λ (q : List (Item F)). Contains q i) (sym t.queue) (Contains-append_right old.queue t.added i added))

    pending_now : (i : Item F) → IsPending old i → IsPending new i ⊎ (item ≡ i)
    pending_now i (inl queued) = inl (inl (subst (λ (q : List (Item F)). Contains q i) (sym t.queue) (Contains-append_left old.queue t.added i queued)))
    pending_now i (inr flew) = elim (emptied_or_stays old.flights worker item flies i flew.0 (flew.1, flew.2)) [
      | inl same ↦ inr same
      | inr still ↦ inl (inr (subst (λ (fs : List (Option (Item F))). Contains fs (Some i)) (sym flights_now) (flew.0, still.0, still.1)))
    ]

    -- an added item wasn't pending
    added_fresh : (i : Item F) → Contains t.added i → IsPending old i → ⊥
    added_fresh (Edge c n f) added pending = (t.edges_from (at_node c n f) added).1 (sound.held.pending_edges (at_node c n f) pending)
    added_fresh (Join c at d x) added pending = (t.joins_from c at d x added).2 (sound.held.pending_joins c at d x pending)

    known_now : (d : Context F) → IsKnown old d → IsKnown new d
    known_now d (inl live) = inl (t.live d live)
    known_now d (inr retired) = inr (t.retired d retired)

    still_taken : (d : Context F) (m : Move F M) → IsTaken old d m → IsTaken new d m
    still_taken d (Go node fact) taken = t.held (at_node d node fact) taken
    still_taken d (Call at c) taken = (known_now c taken.0, t.callers c d at taken.1)
    still_taken d (Exit x) taken = t.exits d x taken
    still_taken d (Mark m) taken = t.marks m taken

    called_context : (at : StmtId) (d : Context F) → MovesOf P item (Call at d) → IsContext P d
    called_context at d m = let from = h.calls at d m in inr (at_node (context_of item) from.node from.fact, at, from.edge, from.move)

    context_now : (d : Context F) → IsKnown new d → IsContext P d
    context_now d (inr retired) = sound.entries.contexts d (inr (t.retired_from d retired))
    context_now d (inl live) = elim (t.live_from d live) [
      | inl was ↦ sound.entries.contexts d (inl was)
      | inr called ↦ called_context called.1.0 d called.1.1
    ]

    -- a context that becomes known is live
    opened_live : (at : StmtId) (d : Context F) → MovesOf P item (Call at d) → (IsKnown old d → ⊥) → IsLive new d
    opened_live at d m unknown = elim (t.taken (Call at d) m).0 [ inl live ↦ live | inr retired ↦ absurd (unknown (inr (t.retired_from d retired))) ]

    held_now : (a : Frame F) → IsHeld new a → IsEdge P a × IsLive new a.context
    held_now a has = elim (t.held_from a has) [
      | inl was ↦ let before = sound.held.edges a was in (before.0, t.live a.context before.1)
      | inr leads ↦ elim leads [
        | inl go ↦ subst (λ (b : Frame F). IsEdge P b × IsLive new b.context) (sym go.3) (h.goes go.0 go.1 go.2, t.live (context_of item) h.live)
        | inr call ↦ subst (λ (b : Frame F). IsEdge P b × IsLive new b.context) (sym call.6) (
          edge_local P (opened call.1 call.2) (called_context call.0 call.1 call.3) (starts call.5),
          opened_live call.0 call.1 call.3 call.4,
        )
      ]
    ]

    callers_now : (d c : Context F) (at : StmtId) → IsCaller new d c at → IsKnown new d × IsKnown new c × Calls P c at d
    callers_now d c at has = elim (t.callers_from d c at has) [
      | inl was ↦ let before = sound.entries.callers d c at was in (known_now d before.0, known_now c before.1, before.2)
      | inr here ↦ ((t.taken (Call at d) here.0).0, inl (subst (IsLive new) (sym here.1) (t.live (context_of item) h.live)), subst (λ (b : Context F). Calls P b at d) (sym here.1) (h.calls at d here.0))
    ]

    exits_now : (d : Context F) (x : F) → IsExit new d x → IsKnown new d × Exits P d x
    exits_now d x has = elim (t.exits_from d x has) [
      | inl was ↦ let before = sound.entries.exits d x was in (known_now d before.0, before.1)
      | inr here ↦ (inl (subst (IsLive new) (sym here.1) (t.live (context_of item) h.live)), subst (λ (b : Context F). Exits P b x) (sym here.1) (h.exits x here.0))
    ]

    starts_now : (d : Context F) (n : Node) → IsLive new d → P.start d n → IsHeld new (opened d n)
    starts_now d n live start = elim (t.live_from d live) [
      | inl was ↦ t.held (opened d n) (sound.held.starts d n was start)
      | inr fresh ↦ elim (t.started d (inl live)) [ inl was ↦ absurd (fresh.0 was) | inr each ↦ each n start ]
    ]

    pending_edge_now : (a : Frame F) → IsPending new (edge_item a) → IsHeld new a
    pending_edge_now a p = elim (pending_was (edge_item a) p) [
      | inl was ↦ t.held a (sound.held.pending_edges a was.0)
      | inr added ↦ (t.edges_from a added).0
    ]

    pending_join_now : (c : Context F) (at : StmtId) (d : Context F) (x : F) → IsPending new (Join c at d x) → IsCaller new d c at × IsExit new d x
    pending_join_now c at d x p = elim (pending_was (Join c at d x) p) [
      | inl was ↦ let before = sound.held.pending_joins c at d x was.0 in (t.callers d c at before.0, t.exits d x before.1)
      | inr added ↦ let fresh = t.joins_from c at d x added in (fresh.0, fresh.1)
    ]

    once_now : IsOnce new
    once_now = record {
      queue = subst IsDistinct (sym t.queue) (pairs_append (λ a b. a ≢ b) old.queue t.added sound.held.once.queue t.once (λ a b queued added same. added_fresh b added (inl (subst (λ (k : Item F). Contains old.queue k) same queued))));
      flights = λ i v w one two.
          let first = subst (λ (fs : List (Option (Item F))). At fs v (Some i)) flights_now one in
          let second = subst (λ (fs : List (Option (Item F))). At fs w (Some i)) flights_now two in
          sound.held.once.flights i v w (emptied_other old.flights worker item flies i v first).1 (emptied_other old.flights worker item flies i w second).1;
      apart = λ i queued flew.
          let there = subst (λ (fs : List (Option (Item F))). Contains fs (Some i)) flights_now flew in
          let was = emptied_other old.flights worker item flies i there.0 (there.1, there.2) in
          elim (Contains-append_cases old.queue t.added i (subst (λ (q : List (Item F)). Contains q i) t.queue queued)) [
            | inl before ↦ sound.held.once.apart i before (there.0, was.1.0, was.1.1)
            | inr added ↦ added_fresh i added (inr (there.0, was.1.0, was.1.1))
          ];
    }

    -- a held edge that isn't pending, or is in hand, doesn't become pending
    not_again : (a : Frame F) → IsHeld old a → (IsPending old (edge_item a) × (let i = edge_item a in i ≢ item) → ⊥) → IsPending new (edge_item a) → ⊥
    not_again a held none p = elim (pending_was (edge_item a) p) [ inl was ↦ none was | inr added ↦ (t.edges_from a added).1 held ]

    worked_now : (a : Frame F) → IsHeld new a → IsPending new (edge_item a) ⊎ ((IsPending new (edge_item a) → ⊥) × ((m : Move F M) → P.step a.node a.fact m → IsTaken new a.context m))
    worked_now a has = elim (t.queued a has) [
      | inr fresh ↦ inl (added_now (edge_item a) fresh.0)
      | inl was ↦ elim (sound.worked a was) [
        | inr taken ↦ inr (not_again a was (λ p. taken.0 p.0), λ m step. still_taken a.context m (taken.1 m step))
        | inl pending ↦ elim (pending_now (edge_item a) pending) [
          | inl still ↦ inl still
          | inr hand ↦ inr (not_again a was (λ p. p.1 (sym hand)), λ m step. let mine = h.edge a (sym hand) m step in subst (λ (d : Context F). IsTaken new d m) (sym mine.1) (t.taken m mine.0))
        ]
      ]
    ]

    joined_now : (d c : Context F) (at : StmtId) (x : F) → IsCaller new d c at → IsExit new d x → IsRetired new c ⊎ IsPending new (Join c at d x) ⊎ ((n : Node) (f : F) → P.back at x (Go n f) → IsHeld new (at_node c n f))
    joined_now d c at x call exit = elim (t.met d c at x call exit) [
      | inr added ↦ inr (inl (added_now (Join c at d x) added))
      | inl were ↦ elim (sound.joined d c at x were.0 were.1) [
        | inl retired ↦ inl (t.retired c retired)
        | inr other ↦ elim other [
          | inl pending ↦ elim (pending_now (Join c at d x) pending) [
            | inl still ↦ inr (inl still)
            | inr hand ↦ inr (inr (λ n f back. let mine = h.join c at d x (sym hand) n f back in subst (λ (b : Context F). IsHeld new (at_node b n f)) (sym mine.1) (t.taken (Go n f) mine.0)))
          ]
          | inr each ↦ inr (inr (λ n f back. t.held (at_node c n f) (each n f back)))
        ]
      ]
    ]

    -- no item of a retired context is added
    hand_live : (c : Context F) → c ≡ context_of item → IsRetired old c → ⊥
    hand_live c same retired = live_or_retired old tidy (context_of item) h.live (subst (IsRetired old) same retired)

    added_live : (i : Item F) → Contains t.added i → IsRetired old (context_of i) → ⊥
    added_live (Edge c n f) added retired =
        let fresh = t.edges_from (at_node c n f) added in
        elim (t.held_from (at_node c n f) fresh.0) [
          | inl was ↦ fresh.1 was
          | inr leads ↦ elim leads [
            | inl go ↦ hand_live c (ap (λ (b : Frame F). b.context) go.3) retired
            | inr call ↦ call.4 (inr (subst (IsRetired old) (ap (λ (b : Frame F). b.context) call.6) retired))
          ]
        ]
    added_live (Join c at d x) added retired =
        let fresh = t.joins_from c at d x added in
        elim (t.callers_from d c at fresh.0) [
          | inr here ↦ hand_live c here.1 retired
          | inl was_call ↦ elim (t.exits_from d x fresh.1) [
            | inl was_exit ↦ fresh.2 (was_call, was_exit)
            | inr here ↦ hand_live d here.1 (sound.retired.calls c retired at d (sound.entries.callers d c at was_call).2)
          ]
        ]

    items_now : (i : Item F) → IsPending new i → IsRetired new (context_of i) → ⊥
    items_now i p retired = elim (pending_was i p) [
      | inl was ↦ sound.retired.items i was.0 (t.retired_from (context_of i) retired)
      | inr added ↦ added_live i added (t.retired_from (context_of i) retired)
    ]

    leaks_now : (m : M) → IsMarked new m → IsLeak P m
    leaks_now m has = elim (t.marks_from m has) [ inl was ↦ sound.leaks m was | inr here ↦ h.marks m here ]

    found_before : (a : Frame F) → IsFound P old a → IsFound P new a
    found_before a (inl has) = inl (t.held a has)
    found_before a (inr gone) = inr (t.retired a.context gone.0, gone.1)

    apart : (a b : Frame F) → IsFound P old a → IsHeld new b × (IsHeld old b → ⊥) → a ≡ b → ⊥
    apart a b (inl has) fresh same = fresh.1 (subst (IsHeld old) same has)
    apart a b (inr gone) fresh same =
        let retired : IsRetired old b.context = subst (λ (c : Frame F). IsRetired old c.context) same gone.0 in
        elim (t.live_from b.context (held_now b fresh.0).1) [
          | inl was ↦ live_or_retired old tidy b.context was retired
          | inr opens ↦ opens.0 (inr retired)
        ]

    found_now : HasCount (IsFound P new) (old.found + t.more)
    found_now =
        let xs = sound.counts.found.0 in
        let ys = t.counted.0 in (
          xs ++ ys,
          record {
            distinct = pairs_append (λ a b. a ≢ b) xs ys sound.counts.found.1.distinct t.counted.1.distinct (λ a b in_xs in_ys same. apart a b (sound.counts.found.1.sound a in_xs) (t.counted.1.sound b in_ys) same);
            sound = λ a has. elim (Contains-append_cases xs ys a has) [ inl in_xs ↦ found_before a (sound.counts.found.1.sound a in_xs) | inr in_ys ↦ inl (t.counted.1.sound a in_ys).0 ];
            whole = λ a has. elim has [
              | inr gone ↦ Contains-append_left xs ys a (sound.counts.found.1.whole a (inr (t.retired_from a.context gone.0, gone.1)))
              | inl held ↦ elim (t.queued a held) [
                | inl was ↦ Contains-append_left xs ys a (sound.counts.found.1.whole a (inl was))
                | inr fresh ↦ Contains-append_right xs ys a (t.counted.1.whole a (held, fresh.1))
              ]
            ];
          },
          length-append xs ys ∙ (omega (arith, sound.counts.found.2, t.counted.2)),
        )

    taken_sound : HasCount (IsDone P new) new.commits → new.found ≤ new.max_edges → IsSound P new
    taken_sound count within = record {
      entries = record { root = known_now P.root sound.entries.root; contexts = context_now; callers = callers_now; exits = exits_now };
      held = record { edges = held_now; starts = starts_now; pending_edges = pending_edge_now; pending_joins = pending_join_now; once = once_now };
      worked = worked_now;
      joined = joined_now;
      retired = record {
        items = items_now;
        calls = λ e retired at d calls. t.retired d (sound.retired.calls e (t.retired_from e retired) at d calls);
        exits = λ e retired x exits. t.exits e x (sound.retired.exits e (t.retired_from e retired) x exits);
        marks = λ a retired edge m step. t.marks m (sound.retired.marks a (t.retired_from a.context retired) edge m step);
      };
      counts = record { found = subst (HasCount (IsFound P new)) (sym t.found) found_now; within = within; commits = count };
      leaks = leaks_now;
    }

    -- what was done stays done, and what is done now was done or is the edge in hand
    pub done_after : (a : Frame F) → IsDone P old a → IsDone P new a
    done_after a (inr gone) = inr (t.retired a.context gone.0, gone.1)
    done_after a (inl done) = inl (t.held a done.0, not_again a done.0 (λ p. done.1 p.0))

    pub done_before : (a : Frame F) → IsDone P new a → IsDone P old a ⊎ (item ≡ edge_item a)
    done_before a (inr gone) = inl (inr (t.retired_from a.context gone.0, gone.1))
    done_before a (inl done) = elim (t.queued a done.0) [
      | inr fresh ↦ absurd (done.1 (added_now (edge_item a) fresh.0))
      | inl was ↦ elim (sound.worked a was) [
        | inr taken ↦ inl (inl (was, taken.0))
        | inl pending ↦ elim (pending_now (edge_item a) pending) [ inl still ↦ absurd (done.1 still) | inr same ↦ inr same ]
      ]
    ]

    -- the edge in hand wasn't done, and is done now
    pub hand_done : (a : Frame F) → item ≡ edge_item a → (IsDone P old a → ⊥) × IsDone P new a
    hand_done a same =
        let pending : IsPending old (edge_item a) = subst (IsPending old) same (inr (worker, flies.0, flies.1)) in
        let held = sound.held.pending_edges a pending in (
          λ done. elim done [
            | inl was ↦ was.1 pending
            | inr gone ↦ live_or_retired old tidy a.context (sound.held.edges a held).1 gone.0
          ],
          inl (t.held a held, not_again a held (λ p. p.1 (sym same))),
        )

    edge_count : (a : Frame F) → item ≡ edge_item a → HasCount (IsDone P new) (old.commits + 1)
    edge_count a same =
        let xs = sound.counts.commits.0 in (
          xs ++ a ∷ [],
          record {
            distinct = all_pairs_push (λ x y. x ≢ y) xs a sound.counts.commits.1.distinct (λ k d below is. (hand_done a same).0 (sound.counts.commits.1.sound a (subst (λ (b : Frame F). Contains xs b) is (Contains-get_or xs k d below))));
            sound = λ b has. elim (Contains-push_cases xs a b has) [
              | inl before ↦ done_after b (sound.counts.commits.1.sound b before)
              | inr is ↦ subst (IsDone P new) is (hand_done a same).1
            ];
            whole = λ b done. elim (done_before b done) [
              | inl was ↦ Contains-append_left xs (a ∷ []) b (sound.counts.commits.1.whole b was)
              | inr hand ↦ subst (λ (c : Frame F). Contains (xs ++ a ∷ []) c) (same_edge a b (sym same ∙ hand)) (Contains-push xs a)
            ];
          },
          length-append xs (a ∷ []) ∙ omega (arith, sound.counts.commits.2),
        )

    join_count : ((a : Frame F) → item ≡ edge_item a → ⊥) → HasCount (IsDone P new) old.commits
    join_count none = (
      sound.counts.commits.0,
      record {
        distinct = sound.counts.commits.1.distinct;
        sound = λ a has. done_after a (sound.counts.commits.1.sound a has);
        whole = λ a done. elim (done_before a done) [ inl was ↦ sound.counts.commits.1.whole a was | inr same ↦ absurd (none a same) ];
      },
      sound.counts.commits.2,
    )

  commit_count : (tidy : IsTidy old) (worker : ℕ) (item : Item F) (flies : At old.flights worker (Some item)) (new : View F M) → TakesIn P (context_of item) (MovesOf P item) (landed worker item old) new → HasCount (IsDone P new) (old.commits + commits_of item)
  commit_count tidy worker (Edge c n f) flies new t = edge_count tidy worker (Edge c n f) flies new t (at_node c n f) refl
  commit_count tidy worker (Join c at d x) flies new t = subst (HasCount (IsDone P new)) (omega arith) (join_count tidy worker (Join c at d x) flies new t (λ a same. join_apart a c at d x same))

  -- lag stays within the period, and isn't 0 behind a commit
  pub commit_kept : (reaches : MethodId → MethodId → Type 0) (tidy : IsTidy old) (worker : ℕ) (new : View F M) → 1 ≤ old.period → Commits P worker old new → IsSound P new × KeepsLag reaches new
  commit_kept reaches tidy worker new some c =
      let t = c.takes_in in
      let commits : new.commits ≡ old.commits + commits_of c.item = ap (λ (v : View F M). v.commits) t.rest in
      let lag : new.lag ≡ min (old.lag + 1) old.period = ap (λ (v : View F M). v.lag) t.rest in
      let period : new.period ≡ old.period = ap (λ (v : View F M). v.period) t.rest in
      let most = min-le_right (old.lag + 1) old.period in
      let least : 1 ≤ min (old.lag + 1) old.period = le-min {a = old.lag + 1} (omega arith) some in (
        taken_sound tidy worker c.item c.flies new t (subst (HasCount (IsDone P new)) (sym commits) (commit_count tidy worker c.item c.flies new t)) c.within,
        record { within = omega (arith, lag, period, most); swept = λ zero m freed. absurd (omega (arith, lag, zero, least)) },
      )

  -- what is done now was done, or is the edge that was in hand, which wasn't
  pub commit_done : (tidy : IsTidy old) (worker : ℕ) (new : View F M) (c : Commits P worker old new) (a : Frame F) → IsDone P new a ↔ (IsDone P old a ⊎ (c.item ≡ edge_item a))
  commit_done tidy worker new c a = (
    done_before tidy worker c.item c.flies new c.takes_in a,
    λ is. elim is [ inl was ↦ done_after tidy worker c.item c.flies new c.takes_in a was | inr same ↦ (hand_done tidy worker c.item c.flies new c.takes_in a same).1 ],
  )

  pub commit_new : (tidy : IsTidy old) (worker : ℕ) (new : View F M) (c : Commits P worker old new) (a : Frame F) → c.item ≡ edge_item a → IsDone P old a → ⊥
  commit_new tidy worker new c a same = (hand_done tidy worker c.item c.flies new c.takes_in a same).0
