use Rattle.std.proofs.Common.{sym, subst, inr}
use Rattle.std.proofs.lemmas.Result.{err_from_is_err_and}
use Rattle.ifds_model.specs.State.{IsPending}
use Rattle.core_driver.proofs.Within.{refused}
use Rattle.core_driver.proofs.driver.commit_item.Goals as goal

pub returns-in_err-commit-clause-refused : goal.returns-in_err-commit-clause-refused
returns-in_err-commit-clause-refused g c =
    let p = err_from_is_err_and c.from_residual.result c.from_residual.ensures.1 in
    let right = c.requires.sound in
    let pending = subst (IsPending c.args.state.now.view) (sym c.in-Ok.ensures.1) (inr (c.args.worker, c.requires.flies.0, c.requires.flies.1)) in
    rw (p.1, p.2) (refused (g.P.Problem.machine c.args.state.now.problem) c.args.state.now.view right.sound right.tidy c.in-Ok.outcome.item pending _ c.in_err-commit.ensures.stopped)
