use Rattle.std.proofs.Common.{rules}
use Rattle.ifds_model.specs.declared.node.Dir.TheVariants.{Backward}
use Rattle.access_path.specs.Paths.{HasField}
use Rattle.access_path.specs.declared.fact.Fact.TheVariants.{Taint as Tainted}
use Rattle.flow_rules.specs.Border.{Enters, IsInside, Renamed}
use Rattle.flow_rules.specs.Locals.{OnTaints}
use Rattle.flow_rules.specs.Only.{IsIn}
use Rattle.clean_base.proofs.Appended.{appends_both_if}
use Rattle.border_flow.proofs.Inside.{backward_splits}
use Rattle.border_flow.proofs.entry.enter_behind.Goals as goal

pub returns : goal.returns
returns c =
    let call = c.args.call.now in
    let t = c.args.t.now in
    let field : HasField t = search rules in
    appends_both_if c.add.result (OnTaints (Renamed (IsInside call)) (Tainted t)) (IsIn c.at_end.result) (Enters call Backward (Tainted t)) _ _ _
    (backward_splits call t c.at_end.result field c.at_end.ensures) c.in_ok-add_inside.ensures c.add.ensures
