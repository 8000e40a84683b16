use Rattle.access_path.specs.declared.fact.Fact.TheVariants.{Taint as Tainted}
use Rattle.flow_rules.specs.Border.{IsInside, Renamed}
use Rattle.flow_rules.specs.Locals.{OnTaints}
use Rattle.flow_rules.specs.Only.{IsIn}
use Rattle.clean_base.proofs.Appended.{appends_same_if}
use Rattle.flow_rules.proofs.Lifted.{of_one}
use Rattle.border_flow.proofs.Inside.{static_only}
use Rattle.std.proofs.Common.{Some}
use Rattle.border_flow.proofs.entry.add_inside.Goals as goal

pub returns-in-Static : goal.returns-in-Static
returns-in-Static c =
    let call = c.args.call.now in
    let t = c.args.t.now in
    appends_same_if c.add.result (IsIn (Some t)) (OnTaints (Renamed (IsInside call)) (Tainted t)) _ _ (of_one (Renamed (IsInside call)) t (Some t) (static_only call t c.in-Static.field-0 c.in-Static.is)) c.add.ensures
