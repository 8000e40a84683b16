use Rattle.taint_problem.specs.Moves.{StaysIn, LeavesBy}
use Rattle.taint_problem.proofs.Sets.{both}
use Rattle.taint_problem.proofs.steps.step_forward.Goals as goal

pub returns : goal.returns
returns c =
    let code = c.args.program.now.code in
    let view = c.args.view.now in
    both c.go_outside.result (StaysIn c.args.k code view c.args.s c.args.fact.now) (LeavesBy code view c.args.s c.args.fact.now) _ _ _ c.in_ok-go_inside.ensures c.go_outside.ensures
