use Rattle.std.proofs.Common.{◌∙◌}
use Rattle.entry_tables.proofs.Numbered.{insert_new}
use Rattle.entry_tables.proofs.places.place_new.Goals as goal

pub returns-clause-keys : goal.returns-clause-keys
returns-clause-keys g c = c.in-Ok.ensures.keys ∙ insert_new g.T.PartialEq.eq g.met.T.Plain.exact c.args.set.now.keys c.args.item c.requires.fresh
