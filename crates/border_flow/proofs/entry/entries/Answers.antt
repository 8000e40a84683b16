use Rattle.ifds_model.specs.declared.node.Dir.TheVariants.{Forward}
use Rattle.access_path.specs.declared.fact.Fact.TheVariants.{Taint as Tainted}
use Rattle.flow_rules.specs.Border.{Enters, IsInside, Renamed}
use Rattle.flow_rules.specs.Locals.{OnTaints}
use Rattle.clean_base.proofs.Appended.{appends_same_if}
use Rattle.border_flow.proofs.Inside.{forward_same}
use Rattle.border_flow.proofs.entry.entries.Goals as goal

pub returns-in-Forward-Taint : goal.returns-in-Forward-Taint
returns-in-Forward-Taint c =
    let call = c.args.call.now in
    let t = c.in-Forward-Taint.t in
    rw (c.in-Forward-Taint.is-0, c.in-Forward-Taint.is-1) (appends_same_if c.add_inside.result (OnTaints (Renamed (IsInside call)) (Tainted t)) (Enters call Forward (Tainted t)) _ _ (forward_same call t) c.add_inside.ensures)
