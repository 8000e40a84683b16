use Rattle.entry_tables.proofs.Listed.{added_within}
use Rattle.entry_tables.specs.Tables.{call_site}
use Rattle.entry_tables.proofs.tables.EntryTables.add_caller.Goals as goal

pub returns-clause-added : goal.returns-clause-added
returns-clause-added g c = λ t. rw (← c.self.view_is) (added_within c.self.inside.callers.lists c.add.new.self.lists _ c.args.callee (call_site c.args.caller c.args.call) (rw (← c.self.view_is) at c.requires.callee) (c.add.ensures.added t))
