use Rattle.std.proofs.Common.{◌≡◌}
use Rattle.access_path.specs.Paths.{rebase}
use Rattle.access_path.specs.declared.fact.Base.TheVariants.{Thrown}
use Rattle.access_path.specs.declared.fact.Fact.TheVariants.{Taint as Tainted}
use Rattle.access_path.specs.declared.fact.Taint.{Taint}
use Rattle.flow_rules.specs.Border.{Throws}
use Rattle.flow_rules.specs.Locals.{Holds}
use Rattle.flow_rules.specs.Only.{IsIn}
use Rattle.clean_base.proofs.Appended.{appends_same_if}
use Rattle.flow_rules.proofs.Lifted.{of_one}
use Rattle.border_flow.proofs.leave.thrown.Goals as goal

pub returns-in-Taint : goal.returns-in-Taint
returns-in-Taint c =
    let R : Taint → Taint → Type 0 = λ t u. Holds c.args.value t × (u ≡ rebase Thrown t) in
    rw c.in-Taint.is (appends_same_if c.add.result (IsIn c.throwing.result) (Throws c.args.value (Tainted c.in-Taint.t)) _ _ (of_one R c.in-Taint.t c.throwing.result c.throwing.ensures) c.add.ensures)
