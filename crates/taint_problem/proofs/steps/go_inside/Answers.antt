use Rattle.ifds_model.specs.declared.node.Dir.TheVariants.{Forward, Backward}
use Rattle.flow_rules.specs.Machine.{After, Asks}
use Rattle.taint_problem.specs.Moves.{Each, AfterCrossed, AskedCrossed, GoesOn}
use Rattle.taint_problem.proofs.Sets.{of_filled, of_filled_if, both}
use Rattle.taint_problem.proofs.Splits.{after_crossed, asks_crossed}
use Rattle.taint_problem.proofs.steps.go_inside.Goals as goal

pub returns : goal.returns
returns c =
    let k = c.args.k in
    let code = c.args.program.now.code in
    let view = c.args.view.now in
    let s = c.args.s in
    let f = c.args.fact.now in
    let h = c.cross-crossed.result in
    let on = GoesOn code Forward s in
    let back = GoesOn code Backward s in
    both c.all_go_on-2.result (Each (After k code view s f) on) (Each (Asks k code view s f) back) _ _ _
    (of_filled (AfterCrossed k view s f h) (After k code view s f) on _ _ _ _ _ c.clear.ensures.items c.in_ok-add_after.ensures c.as_slice.ensures.value (after_crossed k code view s f h c.cross-crossed.ensures) c.in_ok-all_go_on.ensures)
    (of_filled_if c.all_go_on-2.result (AskedCrossed k view s h) (Asks k code view s f) back _ _ _ _ _ c.clear-2.ensures.items c.in_ok-add_asked.ensures c.as_slice-2.ensures.value (asks_crossed k code view s f h c.cross-crossed.ensures) c.all_go_on-2.ensures)
