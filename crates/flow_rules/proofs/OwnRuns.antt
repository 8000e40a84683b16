-- Every path edge, context and leak of a whole program whose statements name only its own names only the program's own
-- statements, methods, locals and fields (docs/SOLVER.md, "Path edges, contexts and leaks"). Moves stand below.
use Rattle.std.proofs.Common.{◌≡◌, ◌≤◌, ℕ, List, [], ◌∷◌, inl, inr, sym, subst}
use Rattle.clean_base.specs.declared.ids.MethodId.{MethodId}
use Rattle.clean_base.specs.declared.ids.StmtId.{StmtId}
use Rattle.ifds_model.specs.Runs.{opened, moved, Configuration, Waiting, Follows, IsRun, IsEdge, IsContext, IsLeak}
use Rattle.ifds_model.specs.declared.node.Context.{Context}
use Rattle.ifds_model.specs.declared.node.Dir.{Dir}
use Rattle.ifds_model.specs.declared.node.Dir.TheVariants.{Forward, Backward}
use Rattle.ifds_model.specs.declared.node.Frame.{Frame}
use Rattle.ifds_model.specs.declared.node.Leak.{Leak}
use Rattle.ifds_model.specs.declared.node.Move.TheVariants as moves
use Rattle.ifds_model.specs.declared.node.Node.{Node}
use Rattle.access_path.specs.declared.fact.Fact.{Fact}
use Rattle.access_path.specs.declared.view.View.{View}
use Rattle.flow_rules.specs.Code.{Code, IsWhole, StandsIn}
use Rattle.flow_rules.specs.Machine.{machine, StepAt}
use Rattle.flow_rules.specs.Own.{IsNamed, IsStmt, OwnFact, OwnFrame, OwnLeak}
use Rattle.flow_rules.proofs.Laws.{owner_at, calls_here}
use Rattle.flow_rules.proofs.OwnMoves.{own_back, own_calls, own_goes, own_leaves, own_starts}
use Rattle.flow_rules.proofs.Owning.{own_leaks}

module _ (k : ℕ) (code : Code) (some : 1 ≤ k) (whole : IsWhole code) (named : IsNamed code) where
  -- each frame that waits is its method's own, and waits at its own statement
  abbrev AllOwn : List (Waiting Fact) → Type 0
  AllOwn [] = Unit {0}
  AllOwn (w ∷ ws) = OwnFrame code k w.frame × (w.call ≡ w.frame.node.stmt) × AllOwn ws

  record IsOwn (c : Configuration Fact) : Type 0 where
    pub top : OwnFrame code k c.top
    pub below : AllOwn c.below

  -- a move of a frame keeps its context
  own_moved : (a : Frame Fact) (n : Node) (g : Fact) → OwnFrame code k a → StandsIn code n.stmt a.context.method × OwnFact code k a.context.method g → OwnFrame code k (moved a n g)
  own_moved a n g own to = record { here = to.0; fact = to.1; entry = own.entry }

  own_opened : (e : Context Fact) (n : Node) → (machine k code).start e n → OwnFact code k e.method e.fact → OwnFrame code k (opened e n)
  own_opened e n start own = record { here = own_starts k code some whole named e n start; fact = own; entry = own }

  own_step : (b c : Configuration Fact) → Follows (machine k code) b c → IsOwn b → IsOwn c
  own_step b c (inl go) own = subst IsOwn (sym go.is) (record {
    top = own_moved b.top go.node go.fact own.top (own_goes k code some whole named b.top.node b.top.context.method b.top.fact go.fact go.node own.top.here own.top.fact go.move);
    below = own.below;
  })
  own_step b c (inr (inl push)) own = subst IsOwn (sym push.is) (record {
    top = own_opened push.callee push.node push.starts (own_calls k code some whole named b.top.node b.top.context.method b.top.fact push.call push.callee own.top.fact push.move);
    below = (own.top, calls_here k code whole b.top.node b.top.fact push.call push.callee push.move, own.below);
  })
  own_step b c (inr (inr pop)) own =
      let waits : AllOwn (pop.caller ∷ pop.rest) = subst AllOwn pop.waits own.below in
      let m = pop.caller.frame.context.method in
      let at : StandsIn code pop.caller.call m = subst (λ (s : StmtId). StandsIn code s m) (sym waits.1) waits.0.here in
      let x : OwnFact code k m pop.exit = own_leaves k code some whole named b.top.node b.top.context.method m b.top.fact pop.exit own.top.fact pop.move in
      subst IsOwn (sym pop.is) (record { top = own_moved pop.caller.frame pop.node pop.fact waits.0 (own_back k code some whole named pop.caller.call m pop.exit pop.node pop.fact at x pop.back); below = waits.2 })

  own_run : (c : Configuration Fact) (cs : List (Configuration Fact)) → IsRun (machine k code) (c ∷ cs) → IsOwn c
  own_run c [] run = subst IsOwn (sym run.is) (record { top = own_opened (machine k code).root run.node run.starts tt; below = tt })
  own_run c (b ∷ cs) run = own_step b c run.0 (own_run b cs run.1)

  pub own_edge : (a : Frame Fact) → IsEdge (machine k code) a → OwnFrame code k a
  own_edge a edge = subst (OwnFrame code k) edge.top (own_run edge.last edge.earlier edge.run).top

  pub own_context : (e : Context Fact) → IsContext (machine k code) e → OwnFact code k e.method e.fact
  own_context e (inl root) = subst (λ (d : Context Fact). OwnFact code k d.method d.fact) (sym root) tt
  own_context e (inr caller) =
      let own = own_edge caller.0 caller.2 in
      own_calls k code some whole named caller.0.node caller.0.context.method caller.0.fact caller.1 e own.fact caller.3

  own_mark_at : (view : View) (n : Node) (dir : Dir) (m : MethodId) (f : Fact) (l : Leak) → IsStmt code n.stmt → StandsIn code n.stmt m → OwnFact code k m f
      → StepAt k code view n dir f (moves.Mark l) → OwnLeak code l
  own_mark_at view n Forward m f l stmt here own leaks = own_leaks k code some named.own_fields m view n.stmt f l stmt (owner_at k code whole n.stmt m here) own leaks
  own_mark_at view n Backward m f l stmt here own none = absurd none

  pub own_leak : (l : Leak) → IsLeak (machine k code) l → OwnLeak code l
  own_leak l leak =
      let own = own_edge leak.0 leak.1 in
      own_mark_at leak.2.0 leak.0.node leak.0.node.dir leak.0.context.method leak.0.fact l leak.2.1.0 own.here own.fact leak.2.2
