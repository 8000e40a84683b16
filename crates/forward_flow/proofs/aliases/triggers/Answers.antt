use Rattle.access_path.specs.declared.fact.Fact.TheVariants.{Taint as Tainted}
use Rattle.flow_rules.specs.Forward.{AsksFor, Triggers}
use Rattle.flow_rules.specs.Only.{IsIn}
use Rattle.clean_base.proofs.Appended.{appends_same_if}
use Rattle.flow_rules.proofs.Lifted.{of_one}
use Rattle.forward_flow.proofs.aliases.triggers.Goals as goal

pub returns-in-Taint : goal.returns-in-Taint
returns-in-Taint c =
    let R = AsksFor c.args.k c.args.view.now c.args.at in
    rw c.in-Taint.is (appends_same_if c.add.result (IsIn c.asked.result) (Triggers c.args.k c.args.view.now c.args.at (Tainted c.in-Taint.t)) _ _
    (of_one R c.in-Taint.t c.asked.result c.asked.ensures) c.add.ensures)
