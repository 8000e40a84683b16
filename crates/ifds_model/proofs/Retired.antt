-- Retiring free methods, and a sweep, keep a state sound, with the same numbers and the same done edges.
use Rattle.std.specs.Prelude.{◌↔◌, ◌⊎◌, ℕ}
use Rattle.std.proofs.Common.{arith, sym, subst, inl, inr}
use Rattle.clean_base.specs.declared.ids.MethodId.{MethodId}
use Rattle.clean_base.specs.declared.ids.StmtId.{StmtId}
use Rattle.ifds_model.specs.declared.node.Context.{Context}
use Rattle.ifds_model.specs.declared.node.Frame.{Frame}
use Rattle.ifds_model.specs.declared.node.Item.TheVariants.{Join}
use Rattle.ifds_model.specs.declared.node.Node.{Node}
use Rattle.ifds_model.specs.declared.node.Move.{Move}
use Rattle.ifds_model.specs.declared.node.Move.TheVariants.{Go, Call, Exit, Mark}
use Rattle.ifds_model.specs.Machine.{Machine}
use Rattle.ifds_model.specs.Runs.{opened, IsEdge}
use Rattle.ifds_model.specs.State.{View, IsTidy, at_node, edge_item, context_of, IsHeld, IsLive, IsRetired, IsKnown, IsCaller, IsExit, IsPending}
use Rattle.ifds_model.specs.Sound.{IsSound, IsTaken, IsFound, IsDone, Calls}
use Rattle.ifds_model.specs.Free.{IsFreed, KeepsLag}
use Rattle.ifds_model.specs.Events.{Drops, Retires, IsSwept, Sweeps}
use Rattle.ifds_model.specs.Laws.{IsLawful}
use Rattle.ifds_model.proofs.Members.{same_count}
use Rattle.ifds_model.proofs.Quiet.{live_or_retired, called_reached, IsQuiet, free_quiet, swept_quiet, held_taken, edges_found}

module _ {F M : Type 0} (P : Machine F M) (method_of : StmtId → MethodId) (reaches : MethodId → MethodId → Type 0) (law : IsLawful P method_of reaches) (old : View F M) (tidy : IsTidy old) (sound : IsSound P old) where
  module _ (inside : MethodId → Type 0) (q : IsQuiet P method_of reaches law old inside) (lag : ℕ) (new : View F M) (d : Drops inside (record old { lag = lag }) new) where
    -- the new state, as the old one with other lists
    abbrev dropped : View F M
    dropped = record old { held = new.held; known = new.known; lag = lag }

    retired_now : (e : Context F) → IsRetired old e → IsRetired dropped e
    retired_now e retired = (d.retired e).1 (inl retired)

    was_known : (e : Context F) → IsKnown dropped e → IsKnown old e
    was_known e (inl live) = inl ((d.live e).0 live).0
    was_known e (inr retired) = elim ((d.retired e).0 retired) [ inl before ↦ inr before | inr now ↦ inl now.0 ]

    -- a live context stays live outside, or is retired inside
    choose : (e : Context F) → IsLive old e → (inside e.method → ⊥) ⊎ (IsRetired dropped e × inside e.method)
    choose e live = elim (d.known e (inl live)) [
      | inl still ↦ inl ((d.live e).0 still).1
      | inr retired ↦ elim ((d.retired e).0 retired) [
        | inl before ↦ absurd (live_or_retired old tidy e live before)
        | inr now ↦ inr (retired, now.1)
      ]
    ]

    found_there : (a : Frame F) → IsFound P old a → IsFound P dropped a
    found_there a (inr gone) = inr (retired_now a.context gone.0, gone.1)
    found_there a (inl held) = let is = sound.held.edges a held in elim (choose a.context is.1) [
      | inl out ↦ inl ((d.held a).1 (held, out))
      | inr retired ↦ inr (retired.0, is.0)
    ]

    found_now : (a : Frame F) → IsLive old a.context → inside a.context.method → IsEdge P a → IsFound P old a
    found_now a live within edge = edges_found P method_of reaches law old tidy sound inside q a edge (inl live) within

    found_back : (a : Frame F) → IsFound P dropped a → IsFound P old a
    found_back a (inl held) = inl ((d.held a).0 held).0
    found_back a (inr gone) = elim ((d.retired a.context).0 gone.0) [
      | inl before ↦ inr (before, gone.1)
      | inr now ↦ found_now a now.0 now.1 gone.1
    ]

    -- what is done stays as it is
    pub done_there : (a : Frame F) → IsDone P old a → IsDone P dropped a
    done_there a (inr gone) = inr (retired_now a.context gone.0, gone.1)
    done_there a (inl done) = elim (found_there a (inl done.0)) [ inl held ↦ inl (held, done.1) | inr gone ↦ inr gone ]

    pub done_back : (a : Frame F) → IsDone P dropped a → IsDone P old a
    done_back a (inl done) = inl (((d.held a).0 done.0).0, done.1)
    done_back a (inr gone) = elim ((d.retired a.context).0 gone.0) [
      | inl before ↦ inr (before, gone.1)
      | inr now ↦ elim (found_now a now.0 now.1 gone.1) [
        | inr other ↦ inr other
        | inl held ↦ inl (held, λ pending. q.quiet (edge_item a) pending now.1)
      ]
    ]

    outside_taken : (e : Context F) → (inside e.method → ⊥) → (m : Move F M) → IsTaken old e m → IsTaken dropped e m
    outside_taken e out (Go node fact) taken = (d.held (at_node e node fact)).1 (taken, out)
    outside_taken e out (Call at c) taken = (d.known c taken.0, taken.1)
    outside_taken e out (Exit x) taken = taken
    outside_taken e out (Mark m) taken = taken

    -- what a move of an edge that goes now asked for was there
    taken_now : (a : Frame F) → IsLive old a.context → inside a.context.method → IsEdge P a → (m : Move F M) → P.step a.node a.fact m → IsTaken old a.context m
    taken_now a live within edge m step = elim (found_now a live within edge) [
      | inl held ↦ held_taken P method_of reaches law old tidy sound inside q a held within m step
      | inr gone ↦ absurd (live_or_retired old tidy a.context live gone.0)
    ]

    called_now : (e c : Context F) (at : StmtId) → Calls P e at c → IsLive old e → inside e.method → IsRetired dropped c
    called_now e c at calls live within =
        let a : Frame F = at_node e calls.node calls.fact in
        let in_c : inside c.method = q.closed e.method c.method within (called_reached P method_of reaches law a calls.edge at c calls.move) in
        elim (taken_now a live within calls.edge (Call at c) calls.move).0 [
          | inl live_c ↦ (d.retired c).1 (inr (live_c, in_c))
          | inr retired ↦ retired_now c retired
        ]

    joined_now : (c e : Context F) (at : StmtId) (x : F) → IsCaller old c e at → IsExit old c x → IsRetired dropped e
        ⊎ IsPending old (Join e at c x)
        ⊎ ((node : Node) (fact : F) → P.back at x (Go node fact) → IsHeld dropped (at_node e node fact))
    joined_now c e at x call exit = elim (sound.joined c e at x call exit) [
      | inl retired ↦ inl (retired_now e retired)
      | inr other ↦ elim other [
        | inl pending ↦ inr (inl pending)
        | inr each ↦ elim (sound.entries.callers c e at call).1 [
          | inr retired ↦ inl (retired_now e retired)
          | inl live ↦ elim (choose e live) [
            | inl out ↦ inr (inr (λ node fact back. (d.held (at_node e node fact)).1 (each node fact back, out)))
            | inr retired ↦ inl retired.0
          ]
        ]
      ]
    ]

    pub dropped_sound : IsSound P dropped
    dropped_sound = record {
      entries = record {
        root = d.known P.root sound.entries.root;
        contexts = λ e known. sound.entries.contexts e (was_known e known);
        callers = λ c e at has. let was = sound.entries.callers c e at has in (d.known c was.0, d.known e was.1, was.2);
        exits = λ e x has. let was = sound.entries.exits e x has in (d.known e was.0, was.1);
      };
      held = record {
        edges = λ a held. let was = (d.held a).0 held in let is = sound.held.edges a was.0 in (is.0, (d.live a.context).1 (is.1, was.1));
        starts = λ e n live start. let was = (d.live e).0 live in (d.held (opened e n)).1 (sound.held.starts e n was.0 start, was.1);
        pending_edges = λ a pending. (d.held a).1 (sound.held.pending_edges a pending, λ within. q.quiet (edge_item a) pending within);
        pending_joins = sound.held.pending_joins;
        once = record { queue = sound.held.once.queue; flights = sound.held.once.flights; apart = sound.held.once.apart };
      };
      worked = λ a held. let was = (d.held a).0 held in elim (sound.worked a was.0) [
        | inl pending ↦ inl pending
        | inr each ↦ inr (each.0, λ m step. outside_taken a.context was.1 m (each.1 m step))
      ];
      joined = joined_now;
      retired = record {
        items = λ item pending retired. elim ((d.retired (context_of item)).0 retired) [
          | inl before ↦ sound.retired.items item pending before
          | inr now ↦ q.quiet item pending now.1
        ];
        calls = λ e retired at c calls. elim ((d.retired e).0 retired) [
          | inl before ↦ retired_now c (sound.retired.calls e before at c calls)
          | inr now ↦ called_now e c at calls now.0 now.1
        ];
        exits = λ e retired x exits. elim ((d.retired e).0 retired) [
          | inl before ↦ sound.retired.exits e before x exits
          | inr now ↦ taken_now (at_node e exits.node exits.fact) now.0 now.1 exits.edge (Exit x) exits.move
        ];
        marks = λ a retired edge m step. elim ((d.retired a.context).0 retired) [
          | inl before ↦ sound.retired.marks a before edge m step
          | inr now ↦ taken_now a now.0 now.1 edge (Mark m) step
        ];
      };
      counts = record {
        found = same_count (IsFound P old) (IsFound P dropped) old.found found_there found_back sound.counts.found;
        within = sound.counts.within;
        commits = same_count (IsDone P old) (IsDone P dropped) old.commits done_there done_back sound.counts.commits;
      };
      leaks = sound.leaks;
    }

    pub drop_sound : IsSound P new
    drop_sound = subst (IsSound P) (sym d.rest) dropped_sound

    -- a method that is freed now was freed
    freed_was : (m : MethodId) → IsFreed reaches dropped m → IsFreed reaches old m
    freed_was m freed = record { free = freed.free; edge = freed.edge; held = ((d.held freed.edge).0 freed.held).0; method = freed.method }

  -- a free method is retired with all that it reaches, or nothing happens
  pub retire_kept : (m : MethodId) (new : View F M) → Retires reaches m old new → KeepsLag reaches old → IsSound P new × KeepsLag reaches new
  retire_kept m new (inr same) keeps = subst (λ (s : View F M). IsSound P s × KeepsLag reaches s) (sym same.1) (sound, keeps)
  retire_kept m new (inl drops) keeps =
      let q = free_quiet P method_of reaches law old m drops.0 in
      let d = drops.1 in (
        drop_sound (λ n. reaches m n) q old.lag new d,
        subst (KeepsLag reaches) (sym d.rest) (record { within = keeps.within; swept = λ zero n freed. keeps.swept zero n (freed_was (λ k. reaches m k) q old.lag new d n freed) }),
      )

  -- every freed method is retired, so none is freed
  pub sweep_kept : (new : View F M) → Sweeps reaches old new → IsSound P new × KeepsLag reaches new × ((m : MethodId) → IsFreed reaches new m → ⊥)
  sweep_kept new d =
      let q = swept_quiet P method_of reaches law old in
      let none : (m : MethodId) → IsFreed reaches (dropped (IsSwept reaches old) q 0 new d) m → ⊥ = λ m freed.
      let was = freed_was (IsSwept reaches old) q 0 new d m freed in
      ((d.held freed.edge).0 freed.held).1 (m, was, subst (λ (n : MethodId). reaches m n) (sym freed.method) (law.reaches_itself m)) in (
        drop_sound (IsSwept reaches old) q 0 new d,
        subst (KeepsLag reaches) (sym d.rest) (record { within = omega arith; swept = λ zero m freed. none m freed }),
        subst (λ (s : View F M). (m : MethodId) → IsFreed reaches s m → ⊥) (sym d.rest) none,
      )

  -- and what is done stays as it is
  pub retire_done : (m : MethodId) (new : View F M) → Retires reaches m old new → (a : Frame F) → IsDone P old a ↔ IsDone P new a
  retire_done m new (inr same) a = subst (λ (s : View F M). IsDone P old a ↔ IsDone P s a) (sym same.1) ((λ d. d), (λ d. d))
  retire_done m new (inl drops) a =
      let q = free_quiet P method_of reaches law old m drops.0 in
      subst (λ (s : View F M). IsDone P old a ↔ IsDone P s a) (sym drops.1.rest) (done_there (λ n. reaches m n) q old.lag new drops.1 a, done_back (λ n. reaches m n) q old.lag new drops.1 a)

  pub sweep_done : (new : View F M) → Sweeps reaches old new → (a : Frame F) → IsDone P old a ↔ IsDone P new a
  sweep_done new d a =
      let q = swept_quiet P method_of reaches law old in
      subst (λ (s : View F M). IsDone P old a ↔ IsDone P s a) (sym d.rest) (done_there (IsSwept reaches old) q 0 new d a, done_back (IsSwept reaches old) q 0 new d a)
