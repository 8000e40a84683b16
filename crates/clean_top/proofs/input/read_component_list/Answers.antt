use Rattle.clean_stage.proofs.Stages.{by_residual}
use Rattle.clean_stage.specs.Stage.{of_stop}
use Rattle.clean_top.proofs.Worked.{components_come, components_stop}
use Rattle.clean_top.proofs.input.read_component_list.Goals as goal

pub returns-in_err-components-clause-comes : goal.returns-in_err-components-clause-comes
returns-in_err-components-clause-comes c =
    by_residual _ (of_stop c.in_err-components.field-0.0) c.from_residual.ensures.1 (components_stop c.args.text.now _ (rw c.as_slice.ensures at c.in_err-components.ensures.err))

pub returns-clause-comes : goal.returns-clause-comes
returns-clause-comes c =
    let read = rw c.as_slice.ensures at c.in_ok-components.ensures in
    rw c.from_vec.ensures (components_come c.args.text.now _ read.ok read.only read.faultless)

pub returns-clause-few : goal.returns-clause-few
returns-clause-few c = let listed = c.in_ok-components.ensures.ok in rw c.from_vec.ensures listed.few
