use Rattle.event_schedule.specs.Schedules.{Writes}
use Rattle.event_schedule.proofs.Texts.{none_then, not_behind}
use Rattle.event_schedule.proofs.order.worker_behind.Goals as goal

pub returns-clause-none : goal.returns-clause-none
returns-clause-none c =
    none_then _ _ (λ none worker. not_behind c.args.word.now c.args.line.now c.in-Some.text.now (λ text. Writes 32 text worker) c.in-Some.ensures.some (none worker)) c.read_worker.result c.read_worker.ensures.none
