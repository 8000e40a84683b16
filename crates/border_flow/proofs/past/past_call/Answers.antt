use Rattle.access_path.specs.declared.fact.Fact.TheVariants.{Taint as Tainted}
use Rattle.access_path.specs.declared.view.View.TheVariants.{Call}
use Rattle.flow_rules.specs.Border.{Passes}
use Rattle.flow_rules.specs.Forward.{Stays}
use Rattle.flow_rules.specs.Only.{IsIn}
use Rattle.clean_base.proofs.Appended.{appends_same_if}
use Rattle.flow_rules.proofs.Lifted.{of_one_with_zero}
use Rattle.border_flow.proofs.past.past_call.Goals as goal

pub returns-in-Taint : goal.returns-in-Taint
returns-in-Taint c =
    let call = c.args.call.now in
    rw c.in-Taint.is (appends_same_if c.add.result (IsIn c.passing.result) (Passes call (Tainted c.in-Taint.t)) _ _ (of_one_with_zero (Stays (Call call)) c.in-Taint.t c.passing.result c.passing.ensures) c.add.ensures)
