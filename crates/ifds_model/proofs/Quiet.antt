-- The central fact of dropping edges: where no method that one method reaches has a pending item, the held edges of each
-- live known context of these methods are exactly its edges. And with nothing pending at all, a sound state has exactly
-- the machine's edges, contexts and leaks.
use Rattle.std.specs.Prelude.{◌<◌, ℕ, ◌≡◌, ◌≢◌, ◌↔◌, true, false, List, [], ◌∷◌}
use Rattle.std.proofs.Common.{sym, ◌∙◌, ap, subst, inl, inr, refl}
use Rattle.clean_base.specs.declared.ids.MethodId.{MethodId}
use Rattle.clean_base.specs.declared.ids.StmtId.{StmtId}
use Rattle.ifds_model.specs.declared.node.Context.{Context}
use Rattle.ifds_model.specs.declared.node.Frame.{Frame}
use Rattle.ifds_model.specs.declared.node.Item.{Item}
use Rattle.ifds_model.specs.declared.node.Item.TheVariants.{Join}
use Rattle.ifds_model.specs.declared.node.Node.{Node}
use Rattle.ifds_model.specs.declared.node.Move.{Move}
use Rattle.ifds_model.specs.declared.node.Move.TheVariants.{Go, Call, Exit, Mark}
use Rattle.ifds_model.specs.Machine.{Machine}
use Rattle.ifds_model.specs.Runs.{Configuration, Waiting, IsRun, IsEdge, IsContext, IsLeak, HasCount}
use Rattle.ifds_model.specs.Local.{Local, starts, goes, returns, local_edge, edge_local}
use Rattle.ifds_model.specs.State.{View, Known, IsTidy, at_node, edge_item, context_of, IsHeld, IsLive, IsRetired, IsKnown, IsMarked, IsExit, IsPending}
use Rattle.ifds_model.specs.Sound.{IsSound, IsTaken, IsFound, IsDone}
use Rattle.ifds_model.specs.Free.{IsFree}
use Rattle.ifds_model.specs.Events.{IsSwept}
use Rattle.ifds_model.specs.Laws.{IsLawful, IsWithin}
use Rattle.ifds_model.proofs.Members.{one_or_pair, same_count}

module _ {F M : Type 0} where
  -- in a tidy state no context is both live and retired
  pub live_or_retired : (s : View F M) → IsTidy s → (e : Context F) → IsLive s e → IsRetired s e → ⊥
  live_or_retired s tidy e live retired = elim (one_or_pair (λ (a b : Known F). a.context ≢ b.context) s.known tidy.known (record { context = e; retired = false }) (record { context = e; retired = true }) live retired) [
    | inl same ↦ let no : false ≡ true = ap (λ (k : Known F). k.retired) same in cc (no)
    | inr other ↦ elim other [ inl apart ↦ apart refl | inr apart ↦ apart refl ]
  ]

  module _ (P : Machine F M) (method_of : StmtId → MethodId) (reaches : MethodId → MethodId → Type 0) (law : IsLawful P method_of reaches) where
    -- each context of the machine is one of a method
    pub context_within : (methods : ℕ) → IsWithin P method_of methods → (e : Context F) → IsContext P e → e.method.0 < methods
    context_within methods w e (inl root) = subst (λ (d : Context F). d.method.0 < methods) (sym root) w.root
    context_within methods w e (inr caller) = w.called caller.0.node caller.0.fact caller.1 e caller.3

    -- what a context reaches by itself stands in its method
    pub local_inside : {e : Context F} {n : Node} {f : F} → Local P e n f → method_of n.stmt ≡ e.method
    local_inside (starts {e} {n} start) = law.starts_inside e n start
    local_inside (goes {e} {n} {f} {m} {h} l move) = law.goes_inside n m f h move ∙ local_inside l
    local_inside (returns {e} {n} {f} {at} {d} {k} {g} {x} {m} {h} l call inner exit back) =
        law.back_inside at x m h back ∙ ap method_of (law.calls_here n f at d call) ∙ local_inside l

    -- what an edge calls is reached from its context's method
    pub called_reached : (a : Frame F) → IsEdge P a → (at : StmtId) (d : Context F) → P.step a.node a.fact (Call at d) → reaches a.context.method d.method
    called_reached a edge at d move = subst (λ (m : MethodId). reaches m d.method) (local_inside (local_edge P a edge)) (law.calls_reach a.node a.fact at d move)

    -- methods that reach no others, and of which none has a pending item
    pub record IsQuiet (s : View F M) (inside : MethodId → Type 0) : Type 0 where
      pub closed : (m n : MethodId) → inside m → reaches m n → inside n
      pub quiet : (item : Item F) → IsPending s item → inside (context_of item).method → ⊥

    -- those that a free method reaches, those that freed methods reach, and all where nothing is pending
    pub free_quiet : (s : View F M) (m : MethodId) → IsFree reaches s m → IsQuiet s (λ n. reaches m n)
    free_quiet s m free = record { closed = λ l n from on. law.reaches_on m l n from on; quiet = free }

    pub swept_quiet : (s : View F M) → IsQuiet s (IsSwept reaches s)
    swept_quiet s = record { closed = λ m n from on. (from.0, from.1, law.reaches_on from.0 m n from.2 on); quiet = λ item pending from. from.1.free item pending from.2 }

    pub all_quiet : (s : View F M) → ((item : Item F) → IsPending s item → ⊥) → IsQuiet s (λ n. Unit {0})
    all_quiet s none = record { closed = λ m n from on. tt; quiet = λ item pending from. none item pending }

    module _ (s : View F M) (tidy : IsTidy s) (sound : IsSound P s) (inside : MethodId → Type 0) (q : IsQuiet s inside) where
      -- the moves of a held edge of a quiet context are taken in
      pub held_taken : (a : Frame F) → IsHeld s a → inside a.context.method → (m : Move F M) → P.step a.node a.fact m → IsTaken s a.context m
      held_taken a held within m step = elim (sound.worked a held) [ inl pending ↦ absurd (q.quiet (edge_item a) pending within) | inr each ↦ each.1 m step ]

      all_held : {e : Context F} {n : Node} {f : F} → Local P e n f → IsLive s e → inside e.method → IsHeld s (at_node e n f)
      all_held (starts {e} {n} start) live within = sound.held.starts e n live start
      all_held (goes {e} {n} {f} {m} {h} l move) live within = held_taken (at_node e n f) (all_held l live within) within (Go m h) move
      all_held (returns {e} {n} {f} {at} {d} {k} {g} {x} {m} {h} l call inner exit back) live within =
          let here : Frame F = at_node e n f in
          let there : Frame F = at_node d k g in
          let held = all_held l live within in
          let called = held_taken here held within (Call at d) call in
          let in_d : inside d.method = q.closed e.method d.method within (called_reached here (sound.held.edges here held).0 at d call) in
          let exited : IsExit s d x = elim called.0 [
            | inr retired ↦ sound.retired.exits d retired x (record { node = k; fact = g; edge = edge_local P there (sound.entries.contexts d called.0) inner; move = exit })
            | inl live_d ↦ held_taken there (all_held inner live_d in_d) in_d (Exit x) exit
          ] in
          elim (sound.joined d e at x called.1 exited) [
            | inl retired ↦ absurd (live_or_retired s tidy e live retired)
            | inr other ↦ elim other [ inl pending ↦ absurd (q.quiet (Join e at d x) pending within) | inr each ↦ each m h back ]
          ]

      -- the central fact
      pub edges_exact : (a : Frame F) → IsLive s a.context → inside a.context.method → IsHeld s a ↔ IsEdge P a
      edges_exact a live within = (λ held. (sound.held.edges a held).0, λ edge. all_held (local_edge P a edge) live within)

      pub edges_found : (a : Frame F) → IsEdge P a → IsKnown s a.context → inside a.context.method → IsFound P s a
      edges_found a edge known within = elim known [
        | inl live ↦ inl ((edges_exact a live within).1 edge)
        | inr retired ↦ inr (retired, edge)
      ]

      -- what an edge of a quiet known context calls is known, and its marks are there
      pub edge_called : (a : Frame F) → IsEdge P a → IsKnown s a.context → inside a.context.method → (at : StmtId) (d : Context F) → P.step a.node a.fact (Call at d) → IsKnown s d
      edge_called a edge known within at d step = elim (edges_found a edge known within) [
        | inl held ↦ (held_taken a held within (Call at d) step).0
        | inr gone ↦ inr (sound.retired.calls a.context gone.0 at d (record { node = a.node; fact = a.fact; edge = edge; move = step }))
      ]

      pub edge_marked : (a : Frame F) → IsEdge P a → IsKnown s a.context → inside a.context.method → (m : M) → P.step a.node a.fact (Mark m) → IsMarked s m
      edge_marked a edge known within m step = elim (edges_found a edge known within) [
        | inl held ↦ held_taken a held within (Mark m) step
        | inr gone ↦ sound.retired.marks a gone.0 edge m step
      ]

      module _ (all : (m : MethodId) → inside m) where
        abbrev KnownBelow : List (Waiting F) → Type 0
        KnownBelow [] = Unit {0}
        KnownBelow (w ∷ ws) = IsKnown s w.frame.context × KnownBelow ws

        known_run : (cs : List (Configuration F)) (c : Configuration F) → IsRun P (c ∷ cs) → IsKnown s c.top.context × KnownBelow c.below
        known_run [] c run = subst (λ (d : Configuration F). IsKnown s d.top.context × KnownBelow d.below) (sym run.is) (sound.entries.root, tt)
        known_run (b ∷ cs) c run =
            let before = known_run cs b run.1 in
            let edge : IsEdge P b.top = record { last = b; earlier = cs; run = run.1; top = refl } in
            elim run.0 [
              | inl go ↦ subst (λ (d : Configuration F). IsKnown s d.top.context × KnownBelow d.below) (sym go.is) before
              | inr other ↦ elim other [
                | inl push ↦ subst (λ (d : Configuration F). IsKnown s d.top.context × KnownBelow d.below) (sym push.is) (edge_called b.top edge before.0 (all b.top.context.method) push.call push.callee push.move, before)
                | inr pop ↦ subst (λ (d : Configuration F). IsKnown s d.top.context × KnownBelow d.below) (sym pop.is) (subst KnownBelow pop.waits before.1)
              ]
            ]

        edge_known : (a : Frame F) → IsEdge P a → IsKnown s a.context
        edge_known a edge = subst (λ (b : Frame F). IsKnown s b.context) edge.top (known_run edge.earlier edge.last edge.run).0

        -- with nothing pending the state has all of the machine
        pub found_exact : HasCount (IsEdge P) s.found
        found_exact = same_count (IsFound P s) (IsEdge P) s.found
            (λ a has. elim has [ inl held ↦ (sound.held.edges a held).0 | inr gone ↦ gone.1 ])
            (λ a edge. edges_found a edge (edge_known a edge) (all a.context.method))
            sound.counts.found

        pub commits_exact : HasCount (IsEdge P) s.commits
        commits_exact = same_count (IsDone P s) (IsEdge P) s.commits
            (λ a has. elim has [ inl done ↦ (sound.held.edges a done.0).0 | inr gone ↦ gone.1 ])
            (λ a edge. elim (edges_found a edge (edge_known a edge) (all a.context.method)) [ inl held ↦ inl (held, λ p. q.quiet (edge_item a) p (all a.context.method)) | inr gone ↦ inr gone ])
            sound.counts.commits

        pub contexts_exact : (e : Context F) → IsKnown s e ↔ IsContext P e
        contexts_exact e = (
          sound.entries.contexts e,
          λ is. elim is [
            | inl root ↦ subst (IsKnown s) (sym root) sound.entries.root
            | inr called ↦ edge_called called.0 called.2 (edge_known called.0 called.2) (all called.0.context.method) called.1 e called.3
          ],
        )

        pub marks_exact : (m : M) → IsMarked s m ↔ IsLeak P m
        marks_exact m = (sound.leaks m, λ leak. edge_marked leak.0 leak.1 (edge_known leak.0 leak.1) (all leak.0.context.method) m leak.2)
