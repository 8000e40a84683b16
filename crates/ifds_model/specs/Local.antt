-- What a context reaches by itself, whoever called it: an inductive tool for proofs about path edges, which are defined
-- by runs. Both directions are proved: the frame of every edge is reached by its own context (`local_edge`), and what a
-- context of the machine reaches by itself is an edge (`edge_local`). Runs stand below, the solver's state above.
use Rattle.std.specs.Prelude.{◌≡◌, List, [], ◌∷◌}
use Rattle.std.proofs.Common.{sym, ap, subst, inl, inr, refl}
use Rattle.clean_base.specs.declared.ids.StmtId.{StmtId}
use Rattle.ifds_model.specs.declared.node.Context.{Context}
use Rattle.ifds_model.specs.declared.node.Frame.{Frame}
use Rattle.ifds_model.specs.declared.node.Node.{Node}
use Rattle.ifds_model.specs.declared.node.Move.TheVariants.{Go, Call, Exit}
use Rattle.ifds_model.specs.Machine.{Machine}
use Rattle.ifds_model.specs.Runs.{opened, Configuration, Waiting, Follows, IsRun, IsEdge, IsContext}

-- from a start, by steps of its own, and behind calls by what the callee reaches and exits with
pub data Local {F M : Type 0} (P : Machine F M) : Context F → Node → F → Type 0 where
  starts : {e : Context F} {n : Node} → P.start e n → Local P e n e.fact
  goes : {e : Context F} {n : Node} {f : F} {m : Node} {h : F} → Local P e n f → P.step n f (Go m h) → Local P e m h
  returns : {e : Context F} {n : Node} {f : F} {at : StmtId} {d : Context F} {k : Node} {g x : F} {m : Node} {h : F}
      → Local P e n f → P.step n f (Call at d) → Local P d k g → P.step k g (Exit x) → P.back at x (Go m h) → Local P e m h

module _ {F M : Type 0} (P : Machine F M) where
  abbrev pub IsLocal : Frame F → Type 0
  IsLocal a = Local P a.context a.node a.fact

  -- the frames that wait below a context, each at a call of the one above it
  abbrev pub Awaits : Context F → List (Waiting F) → Type 0
  Awaits e [] = e ≡ P.root
  Awaits e (w ∷ ws) = IsLocal w.frame × P.step w.frame.node w.frame.fact (Call w.call e) × Awaits w.frame.context ws

  -- the top frame is reached by its context, and each frame below it waits at a call
  pub record IsTraced (c : Configuration F) : Type 0 where
    pub top : IsLocal c.top
    pub below : Awaits c.top.context c.below

  -- each move of the machine keeps this
  pub traced_step : (b c : Configuration F) → Follows P b c → IsTraced b → IsTraced c
  traced_step b c (inl go) s = subst IsTraced (sym go.is) (record { top = goes s.top go.move; below = s.below })
  traced_step b c (inr (inl push)) s = subst IsTraced (sym push.is) (record { top = starts push.starts; below = (s.top, push.move, s.below) })
  traced_step b c (inr (inr pop)) s =
      let waits : Awaits b.top.context (pop.caller ∷ pop.rest) = subst (λ (ws : List (Waiting F)). Awaits b.top.context ws) pop.waits s.below in
      subst IsTraced (sym pop.is) (record { top = returns waits.0 waits.1 s.top pop.move pop.back; below = waits.2 })

  pub traced : (c : Configuration F) (cs : List (Configuration F)) → IsRun P (c ∷ cs) → IsTraced c
  traced c [] run = subst IsTraced (sym run.is) (record { top = starts run.starts; below = refl })
  traced c (b ∷ cs) run = traced_step b c run.0 (traced b cs run.1)

  -- an edge is one that its context reaches by itself
  pub local_edge : (a : Frame F) → IsEdge P a → IsLocal a
  local_edge a edge = subst IsLocal edge.top (traced edge.last edge.earlier edge.run).top

  -- a run that ends in this configuration
  pub record IsReached (c : Configuration F) : Type 0 where
    pub earlier : List (Configuration F)
    pub run : IsRun P (c ∷ earlier)

  -- the frames on which a context can open
  abbrev pub OpensOver : Context F → List (Waiting F) → Type 0
  OpensOver e below = (n : Node) → P.start e n → IsReached (record { top = opened e n; below = below })

  -- a run that opens the context leads on to all that it reaches by itself
  pub local_run : {e : Context F} {n : Node} {f : F} → Local P e n f → (below : List (Waiting F)) → OpensOver e below
      → IsReached (record { top = record { context = e; node = n; fact = f }; below = below })
  local_run (starts s) below opens = opens _ s
  local_run (goes {e} {n} {f} {m} {h} l move) below opens =
      let before = local_run l below opens in
      record { earlier = record { top = record { context = e; node = n; fact = f }; below = below } ∷ before.earlier; run = (inl (record { node = m; fact = h; move = move; is = refl }), before.run) }
  local_run (returns {e} {n} {f} {at} {d} {k} {g} {x} {m} {h} l call inner exit back) below opens =
      let here : Frame F = record { context = e; node = n; fact = f } in
      let before = local_run l below opens in
      let waiting : List (Waiting F) = record { frame = here; call = at } ∷ below in
      let deeper : OpensOver d waiting = λ start s. record {
        earlier = record { top = here; below = below } ∷ before.earlier;
        run = (inr (inl (record { call = at; callee = d; node = start; move = call; starts = s; is = refl })), before.run);
      } in
      let inside = local_run inner waiting deeper in
      record {
        earlier = record { top = record { context = d; node = k; fact = g }; below = waiting } ∷ inside.earlier;
        run = (inr (inr (record { exit = x; caller = record { frame = here; call = at }; rest = below; node = m; fact = h; move = exit; waits = refl; back = back; is = refl })), inside.run);
      }

  -- where a context of the machine opens
  pub context_opens : (e : Context F) → IsContext P e → (below : List (Waiting F)) × OpensOver e below
  context_opens e (inl root) = ([], λ n s. record { earlier = []; run = record { node = n; starts = subst (λ (d : Context F). P.start d n) root s; is = ap (λ (d : Context F). let c : Configuration F = record { top = opened d n; below = [] } in c) root } })
  context_opens e (inr caller) =
      let edge = caller.2 in
      let move : P.step edge.last.top.node edge.last.top.fact (Call caller.1 e) = subst (λ (b : Frame F). P.step b.node b.fact (Call caller.1 e)) (sym edge.top) caller.3 in (
        record { frame = edge.last.top; call = caller.1 } ∷ edge.last.below,
        λ n s. record { earlier = edge.last ∷ edge.earlier; run = (inr (inl (record { call = caller.1; callee = e; node = n; move = move; starts = s; is = refl })), edge.run) },
      )

  -- what a context of the machine reaches by itself is an edge
  pub edge_local : (a : Frame F) → IsContext P a.context → IsLocal a → IsEdge P a
  edge_local a context local =
      let opens = context_opens a.context context in
      let run = local_run local opens.0 opens.1 in
      record { last = record { top = a; below = opens.0 }; earlier = run.earlier; run = run.run; top = refl }
