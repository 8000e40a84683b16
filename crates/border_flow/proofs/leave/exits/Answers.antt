use Rattle.access_path.specs.declared.fact.Fact.TheVariants.{Taint as Tainted}
use Rattle.flow_rules.specs.Border.{Exits}
use Rattle.flow_rules.specs.Only.{IsIn}
use Rattle.clean_base.proofs.Appended.{appends_same_if}
use Rattle.flow_rules.proofs.Lifted.{of_one_with_zero}
use Rattle.border_flow.specs.Parts.{Leaves}
use Rattle.border_flow.proofs.leave.exits.Goals as goal

pub returns-in-Taint : goal.returns-in-Taint
returns-in-Taint c =
    rw c.in-Taint.is (appends_same_if c.add.result (IsIn c.leaving.result) (Exits c.args.value (Tainted c.in-Taint.t)) _ _ (of_one_with_zero (Leaves c.args.value) c.in-Taint.t c.leaving.result c.leaving.ensures) c.add.ensures)
