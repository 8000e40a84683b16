use Rattle.std.proofs.Common.{codes}
use Rattle.event_schedule.specs.Schedules.{Sets}
use Rattle.event_schedule.proofs.Texts.{none_then, not_behind}
use Rattle.event_schedule.proofs.order.read_take.Goals as goal

pub returns-clause-none : goal.returns-clause-none
returns-clause-none c =
    none_then _ _ (λ none worker place. not_behind (codes "take ") c.args.line.now c.in-Some.text.now (λ text. Sets text worker place) c.in-Some.ensures.some (none worker place)) c.read_pair.result c.read_pair.ensures.none
