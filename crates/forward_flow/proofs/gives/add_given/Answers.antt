use Rattle.access_path.specs.declared.fact.Fact.TheVariants.{Taint as Tainted}
use Rattle.access_path.specs.declared.fact.Taint.{Taint}
use Rattle.flow_rules.specs.Forward.{Gives}
use Rattle.flow_rules.specs.Locals.{OnTaints, Says}
use Rattle.flow_rules.specs.Only.{IsIn}
use Rattle.clean_base.proofs.Appended.{appends_same_if}
use Rattle.flow_rules.proofs.Lifted.{of_one, only_also}
use Rattle.forward_flow.proofs.gives.add_given.Goals as goal

pub returns-in-Call : goal.returns-in-Call
returns-in-Call c = rw c.in-Call.is c.library.ensures

pub returns : goal.returns
returns c =
    let k = c.args.k in
    let view = c.args.view.now in
    let t = c.args.t.now in
    let R : Taint → Taint → Type 0 = λ a u. Gives k view a u × Says u in
    appends_same_if c.add.result (IsIn c.said.result) (OnTaints R (Tainted t)) _ _
    (of_one R t c.said.result (only_also (Gives k view t) Says _ _ c.given.ensures c.said.ensures)) c.add.ensures
