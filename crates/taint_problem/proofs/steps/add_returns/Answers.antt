use Rattle.clean_base.proofs.Appended.{appends_same_if}
use Rattle.taint_problem.specs.Moves.{Returns, ReturnMoves}
use Rattle.taint_problem.proofs.Splits.{return_splits}
use Rattle.taint_problem.proofs.steps.add_returns.Goals as goal

pub returns-in-Some : goal.returns-in-Some
returns-in-Some c =
    let code = c.args.program.now.code in
    let call = c.in-Some.call.now in
    appends_same_if c.come_back.result (ReturnMoves code call c.args.s c.args.exit.now) (Returns code c.args.s c.args.exit.now) _ _
    (return_splits code c.args.s call c.args.exit.now c.in-Some.ensures.some) c.come_back.ensures
