use Rattle.std.proofs.Common.{codes}
use Rattle.source_sink.specs.Signature.{Spells}
use Rattle.event_schedule.proofs.Texts.{not_behind, ok_none_then}
use Rattle.event_schedule.proofs.order.read_retire.Goals as goal

pub returns-clause-none : goal.returns-clause-none
returns-clause-none c =
    ok_none_then _ _ (λ none sig. not_behind (codes "retire ") c.args.line.now c.in-Some.text.now (Spells sig) c.in-Some.ensures.some (none sig)) c.read_sig.result c.read_sig.ensures.none
