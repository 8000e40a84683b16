use Rattle.std.proofs.Common.{OnOk, sym, subst}
use Rattle.clean_base.specs.Lists.{AppendsSet}
use Rattle.ifds_model.specs.declared.node.Dir.{Dir}
use Rattle.flow_rules.specs.Machine.{Step, before, after}
use Rattle.clean_base.proofs.Appended.{appends_same_if}
use Rattle.taint_problem.specs.Moves.{ForwardMoves, BackwardMoves}
use Rattle.taint_problem.proofs.Splits.{forward_splits, backward_splits}
use Rattle.taint_problem.proofs.steps.step_at.Goals as goal

pub returns-in-Forward : goal.returns-in-Forward
returns-in-Forward c =
    let code = c.args.program.now.code in
    let view = c.args.view.now in
    let s = c.args.node.stmt in
    let f = c.args.fact.now in
    subst (λ (d : Dir). OnOk c.step_forward.result (AppendsSet (Step c.args.k code (record { stmt = s; dir = d }) f) c.args.out.now.items c.step_forward.new.out.items)) (sym c.in-Forward.is)
    (appends_same_if c.step_forward.result (ForwardMoves c.args.k code view s f) (Step c.args.k code (before s) f) _ _ (forward_splits c.args.k code view s f c.requires.here) c.step_forward.ensures)

pub returns-in-Backward : goal.returns-in-Backward
returns-in-Backward c =
    let code = c.args.program.now.code in
    let view = c.args.view.now in
    let s = c.args.node.stmt in
    let f = c.args.fact.now in
    let sleeps = c.sleeps.ensures.0 c.if-sleeps.true in
    subst (λ (d : Dir). OnOk c.step_backward.result (AppendsSet (Step c.args.k code (record { stmt = s; dir = d }) f) c.args.out.now.items c.step_backward.new.out.items)) (sym c.in-Backward.is)
    (appends_same_if c.step_backward.result (BackwardMoves c.args.k code view s f) (Step c.args.k code (after s) f) _ _ (backward_splits c.args.k code view s f c.requires.here sleeps) c.step_backward.ensures)
