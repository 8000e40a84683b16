use Rattle.std.proofs.Common.{◌≡◌, ◌∷◌, [], subst, ap, ◌∙◌}
use Rattle.access_path.specs.Paths.{inside, sleep, with_fields}
use Rattle.access_path.specs.declared.fact.Taint.{Taint}
use Rattle.flow_rules.specs.Locals.{Becomes}
use Rattle.flow_rules.specs.Only.{IsOnly}
use Rattle.flow_rules.proofs.Lifted.{only_where}
use Rattle.forward_flow.proofs.aliases.asked.Goals as goal

pub returns-in-Call : goal.returns-in-Call
returns-in-Call c =
    let at = c.args.at in
    let receiver = c.in-Call.call.receiver in
    let asleep : c.sleep-in-Call.result ≡ sleep at (with_fields (inside ∷ []) c.args.t.now) = c.sleep-in-Call.ensures ∙ ap (sleep at) c.inside.ensures in
    rw c.in-Call.is (only_where _ (Becomes receiver (sleep at (with_fields (inside ∷ []) c.args.t.now))) _ (c.is_argument.ensures.0 c.if-is_argument.true)
    (subst (λ (t : Taint). IsOnly (Becomes receiver t) c.becomes.result) asleep c.becomes.ensures))
