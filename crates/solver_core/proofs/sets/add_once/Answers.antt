use Rattle.entry_tables.proofs.Numbered.{was_there}
use Rattle.solver_core.proofs.sets.add_once.Goals as goal

pub returns-clause-was : goal.returns-clause-was
returns-clause-was g c = was_there g.T.PartialEq.eq g.met.T.Plain.exact c.args.items.now.keys c.args.item c.in-Ok.added c.in-Ok.ensures.added
