use Rattle.ifds_model.specs.declared.node.Dir.TheVariants.{Forward}
use Rattle.flow_rules.specs.Forward.{Leaks}
use Rattle.taint_problem.specs.Moves.{Each, HandedOver, Leaves, CallsEach, Exits, Marks}
use Rattle.taint_problem.proofs.Sets.{of_filled, both_three}
use Rattle.taint_problem.proofs.steps.go_outside.Goals as goal

pub returns : goal.returns
returns c =
    let view = c.args.view.now in
    let s = c.args.s in
    let f = c.args.fact.now in
    let handed = HandedOver view Forward f in
    let calls = CallsEach c.args.program.now.code s Forward in
    both_three c.mark.result (Each handed calls) (Each (Leaves view f) Exits) (Each (Leaks view s f) Marks) _ _ _ _
    (of_filled handed handed calls _ _ _ _ _ c.clear.ensures.items c.in_ok-add_handed.ensures c.as_slice.ensures.value (λ g. ((λ e. e), (λ e. e))) c.in_ok-all_call.ensures)
    (of_filled (Leaves view f) (Leaves view f) Exits _ _ _ _ _ c.clear-2.ensures.items c.in_ok-add_leaving.ensures c.as_slice-2.ensures.value (λ g. ((λ e. e), (λ e. e))) c.in_ok-all_exit.ensures)
    c.mark.ensures
