use Rattle.clean_stage.proofs.Stages.{by_residual}
use Rattle.clean_stage.specs.Stage.{of_stop}
use Rattle.clean_top.proofs.Worked.{root_comes, root_stops}
use Rattle.clean_top.proofs.work.entered.Goals as goal

pub returns-in_err-root_of-clause-comes : goal.returns-in_err-root_of-clause-comes
returns-in_err-root_of-clause-comes c =
    let refused = c.in_err-root_of.ensures in
    by_residual _ (of_stop c.in_err-root_of.field-0.0) c.from_residual.ensures.1 (root_stops c.args.input.now c.in_err-root_of.field-0.0 refused.err refused.only)

pub returns-clause-comes : goal.returns-clause-comes
returns-clause-comes c =
    let found = c.in_ok-root_of.ensures in
    root_comes c.args.input.now _ found.ok found.one found.faultless

pub returns-clause-within : goal.returns-clause-within
returns-clause-within c = let root = c.in_ok-root_of.ensures.ok in let declared = root.declared in declared.2.0
