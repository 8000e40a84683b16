use Rattle.std.proofs.Common.{[], subst}
use Rattle.access_path.specs.Paths.{with_fields}
use Rattle.access_path.specs.declared.fact.Taint.{Taint}
use Rattle.flow_rules.specs.Locals.{Becomes}
use Rattle.flow_rules.specs.Only.{IsOnly}
use Rattle.flow_rules.proofs.Lifted.{only_where}
use Rattle.forward_flow.proofs.calls.to_result.Goals as goal

pub returns-then-reaches_result : goal.returns-then-reaches_result
returns-then-reaches_result c =
    let result = c.args.call.now.result in
    only_where _ (Becomes result (with_fields [] c.args.t.now)) _ (c.reaches_result.ensures.0 c.if-reaches_result.true)
    (subst (λ (t : Taint). IsOnly (Becomes result t) c.becomes.result) c.bare.ensures c.becomes.ensures)
