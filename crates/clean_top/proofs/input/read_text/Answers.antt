use Rattle.clean_stage.proofs.Stages.{by_residual}
use Rattle.clean_stage.specs.Stage.{of_stop}
use Rattle.clean_top.proofs.Worked.{classes_come, classes_stop}
use Rattle.clean_top.proofs.input.read_text.Goals as goal

pub returns-in_err-classes-clause-comes : goal.returns-in_err-classes-clause-comes
returns-in_err-classes-clause-comes c =
    by_residual _ (of_stop c.in_err-classes.field-0.0) c.from_residual.ensures.1 (classes_stop c.args.text.now _ (rw c.as_slice.ensures at c.in_err-classes.ensures.err))

pub returns-clause-comes : goal.returns-clause-comes
returns-clause-comes c = rw c.from_vec.ensures (classes_come c.args.text.now _ (rw c.as_slice.ensures at c.in_ok-classes.ensures.ok))
