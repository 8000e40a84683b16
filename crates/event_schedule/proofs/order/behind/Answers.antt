use Rattle.std.proofs.lemmas.Bool.Decides.{Decides-eqb}
use Rattle.std.proofs.lemmas.Slice.Eq.{strip_prefix_is}
use Rattle.event_schedule.proofs.Texts.{matched, missed}
use Rattle.event_schedule.proofs.order.behind.Goals as goal

pub returns-clause-some : goal.returns-clause-some
returns-clause-some c = matched c.strip_prefix.result _ _ (strip_prefix_is Decides-eqb c.args.line.now c.args.word.now c.strip_prefix.result c.strip_prefix.ensures.cases)

pub returns-clause-none : goal.returns-clause-none
returns-clause-none c = missed c.strip_prefix.result _ _ (strip_prefix_is Decides-eqb c.args.line.now c.args.word.now c.strip_prefix.result c.strip_prefix.ensures.cases)
