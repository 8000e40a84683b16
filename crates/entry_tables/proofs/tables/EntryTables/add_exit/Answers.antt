use Rattle.entry_tables.proofs.Listed.{added_within}
use Rattle.entry_tables.proofs.tables.EntryTables.add_exit.Goals as goal

pub returns-clause-added : goal.returns-clause-added
returns-clause-added g c = λ t. rw (← c.self.view_is) (added_within c.self.inside.exits.lists c.add.new.self.lists _ c.args.context c.args.exit (rw (← c.self.view_is) at c.requires.context) (c.add.ensures.added t))
