use Rattle.std.proofs.Common.{subst}
use Rattle.access_path.specs.declared.fact.Taint.{Taint}
use Rattle.flow_rules.specs.Only.{IsOnly}
use Rattle.access_path.specs.Paths.{IsBelow, strip}
use Rattle.flow_rules.specs.Locals.{Becomes}
use Rattle.flow_rules.proofs.Lifted.{only_where}
use Rattle.alias_flow.proofs.backward.stored.Goals as goal

pub returns-then-is_below : goal.returns-then-is_below
returns-then-is_below c =
    let below : IsBelow c.args.t.now c.args.base c.args.field = c.is_below.ensures.0 c.if-is_below.true in
    only_where _ (Becomes c.args.from (strip c.args.t.now)) _ below (subst (λ (s : Taint). IsOnly (Becomes c.args.from s) c.becomes.result) c.strip.ensures c.becomes.ensures)
