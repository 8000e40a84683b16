use Rattle.event_schedule.proofs.Numbers.{is_text}
use Rattle.event_schedule.proofs.number.number_of.Goals as goal

pub returns-in_default-clause-none : goal.returns-in_default-clause-none
returns-in_default-clause-none c = λ numeral fits. c.in_default.ensures.cases.0 (is_text c.args.text.now numeral)
