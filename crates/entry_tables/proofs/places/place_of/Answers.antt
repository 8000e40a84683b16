use Rattle.entry_tables.proofs.Numbered.{there}
use Rattle.entry_tables.proofs.places.place_of.Goals as goal

pub returns-clause-there : goal.returns-clause-there
returns-clause-there g c = there g.T.PartialEq.eq g.met.T.Plain.exact c.args.set.now.keys c.args.item.now c.get_index_of.result c.get_index_of.ensures.index
