use Rattle.clean_stage.proofs.Stages.{by_residual}
use Rattle.clean_stage.specs.Stage.{of_stop}
use Rattle.clean_top.proofs.Worked.{table_comes, table_stops}
use Rattle.clean_top.proofs.input.table_of.Goals as goal

pub returns-in_err-build : goal.returns-in_err-build
returns-in_err-build c =
    by_residual _ (of_stop c.in_err-build.field-0.0) c.from_residual.ensures.1
    (rw c.into_vec.ensures at (table_stops _ c.in_err-build.field-0.0 c.in_err-build.ensures.err c.in_err-build.ensures.only))

pub returns : goal.returns
returns c =
    let made = c.in_ok-build.ensures in
    rw (made.ok.0, c.into_vec.ensures) (table_comes _ (rw c.into_vec.ensures at made.faultless))
