use Rattle.access_path.specs.declared.fact.Fact.TheVariants.{Taint as Tainted}
use Rattle.access_path.specs.declared.fact.Taint.{Taint}
use Rattle.flow_rules.specs.Forward.{Gives, Over}
use Rattle.flow_rules.specs.Locals.{OnTaints, Says}
use Rattle.flow_rules.specs.Only.{IsIn}
use Rattle.clean_base.proofs.Appended.{appends_both_if}
use Rattle.forward_flow.proofs.Parts.{taint_splits}
use Rattle.forward_flow.proofs.after.over_taint.Goals as goal

pub returns : goal.returns
returns c =
    let k = c.args.k in
    let view = c.args.view.now in
    let at = c.args.at in
    let t = c.args.t.now in
    let R : Taint → Taint → Type 0 = λ a u. Gives k view a u × Says u in
    appends_both_if c.add.result (OnTaints R (Tainted t)) (IsIn c.stays.result) (Over k view at (Tainted t)) _ _ _
    (taint_splits k view at t c.stays.result c.stays.ensures) c.in_ok-add_given.ensures c.add.ensures
