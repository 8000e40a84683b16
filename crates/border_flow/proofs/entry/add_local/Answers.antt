use Rattle.std.proofs.Common.{length}
use Rattle.access_path.specs.declared.fact.Fact.TheVariants.{Taint as Tainted}
use Rattle.flow_rules.specs.Border.{IsInside, Renamed}
use Rattle.flow_rules.specs.Locals.{OnTaints}
use Rattle.flow_rules.specs.Only.{IsIn}
use Rattle.clean_base.proofs.Appended.{appends_both_if}
use Rattle.border_flow.specs.Parts.{EntersFirst}
use Rattle.border_flow.proofs.Inside.{local_splits}
use Rattle.border_flow.proofs.entry.add_local.Goals as goal

pub returns : goal.returns
returns c =
    let call = c.args.call.now in
    let t = c.args.t.now in
    appends_both_if c.add_params.result (IsIn c.as_receiver.result) (EntersFirst call.args (length call.args) t c.args.x) (OnTaints (Renamed (IsInside call)) (Tainted t)) _ _ _
    (local_splits call t c.args.x c.as_receiver.result c.requires.of c.as_receiver.ensures) c.in_ok-add.ensures (rw c.as_slice.ensures at c.add_params.ensures)
