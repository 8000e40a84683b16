use Rattle.std.proofs.Common.{◌∷◌, [], subst}
use Rattle.access_path.specs.Paths.{inside, with_fields}
use Rattle.access_path.specs.declared.fact.Taint.{Taint}
use Rattle.flow_rules.specs.Locals.{Becomes}
use Rattle.flow_rules.specs.Only.{IsOnly}
use Rattle.flow_rules.proofs.Lifted.{only_where}
use Rattle.forward_flow.proofs.calls.to_receiver.Goals as goal

pub returns-then-is_argument : goal.returns-then-is_argument
returns-then-is_argument c =
    let receiver = c.args.call.now.receiver in
    only_where _ (Becomes receiver (with_fields (inside ∷ []) c.args.t.now)) _ (c.is_argument.ensures.0 c.if-is_argument.true)
    (subst (λ (t : Taint). IsOnly (Becomes receiver t) c.becomes.result) c.inside.ensures c.becomes.ensures)
