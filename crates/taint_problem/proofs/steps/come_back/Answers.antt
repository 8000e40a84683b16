use Rattle.std.proofs.Common.{◌≡◌, subst}
use Rattle.ifds_model.specs.declared.node.Dir.TheVariants.{Forward, Backward}
use Rattle.access_path.specs.declared.fact.Fact.{Fact}
use Rattle.clean_base.specs.declared.ids.StmtId.{StmtId}
use Rattle.clean_base.specs.Lists.{AppendsSet}
use Rattle.flow_rules.specs.Border.{ReturnsAhead, ReturnsBehind}
use Rattle.flow_rules.specs.Locals.{IsThrown}
use Rattle.taint_problem.specs.Moves.{Each, GoesOn, Turns}
use Rattle.taint_problem.proofs.Sets.{of_filled, of_filled_if, both_three}
use Rattle.taint_problem.proofs.steps.come_back.Goals as goal

pub returns : goal.returns
returns c =
    let code = c.args.program.now.code in
    let call = c.args.call.now in
    let s = c.args.s in
    let x = c.args.exit.now in
    let thrown : Fact → Type 0 = λ g. IsThrown x × (g ≡ x) in
    let on = GoesOn code Forward s in
    let back = GoesOn code Backward s in
    let behind = subst (λ (t : StmtId). AppendsSet (ReturnsBehind call t x) c.new-behind.result.items c.back.new.behind.items) c.requires.placed c.in_ok-back.ensures.behind in
    both_three c.all_go_on-2.result (Each thrown (Turns s)) (Each (ReturnsAhead call x) on) (Each (ReturnsBehind call s x) back) _ _ _ _
    (of_filled thrown thrown (Turns s) _ _ _ _ _ c.new-ahead.ensures.items c.in_ok-add_thrown.ensures c.as_slice.ensures.value (λ g. ((λ e. e), (λ e. e))) c.in_ok-all_turn.ensures)
    (of_filled (ReturnsAhead call x) (ReturnsAhead call x) on _ _ _ _ _ c.clear.ensures.items c.in_ok-back.ensures.ahead c.as_slice-2.ensures.value (λ g. ((λ e. e), (λ e. e))) c.in_ok-all_go_on.ensures)
    (of_filled_if c.all_go_on-2.result (ReturnsBehind call s x) (ReturnsBehind call s x) back _ _ _ _ _ c.new-behind.ensures.items behind c.as_slice-3.ensures.value (λ g. ((λ e. e), (λ e. e))) c.all_go_on-2.ensures)
