use Rattle.ifds_model.specs.declared.node.Dir.TheVariants.{Backward}
use Rattle.flow_rules.specs.Backward.{Under}
use Rattle.taint_problem.specs.Moves.{Each, HandedOver, GoesOn, CallsEach, Turns}
use Rattle.taint_problem.proofs.Sets.{of_filled, of_filled_if, both_three}
use Rattle.taint_problem.proofs.steps.step_backward.Goals as goal

pub returns : goal.returns
returns c =
    let code = c.args.program.now.code in
    let view = c.args.view.now in
    let s = c.args.s in
    let under = Under c.args.k view c.args.fact.now in
    let handed = HandedOver view Backward c.args.fact.now in
    let back = GoesOn code Backward s in
    let calls = CallsEach code s Backward in
    both_three c.all_call.result (Each under (Turns s)) (Each under back) (Each handed calls) _ _ _ _
    (of_filled under under (Turns s) _ _ _ _ _ c.new-scratch.ensures.items c.in_ok-under.ensures c.as_slice.ensures.value (λ g. ((λ e. e), (λ e. e))) c.in_ok-all_turn.ensures)
    (of_filled under under back _ _ _ _ _ c.new-scratch.ensures.items c.in_ok-under.ensures c.as_slice-2.ensures.value (λ g. ((λ e. e), (λ e. e))) c.in_ok-all_go_on.ensures)
    (of_filled_if c.all_call.result handed handed calls _ _ _ _ _ c.clear.ensures.items c.in_ok-add_handed.ensures c.as_slice-3.ensures.value (λ g. ((λ e. e), (λ e. e))) c.all_call.ensures)
