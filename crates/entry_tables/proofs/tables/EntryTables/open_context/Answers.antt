use Rattle.entry_tables.proofs.Fitted.{opened, callers_given, exits_given}
use Rattle.entry_tables.proofs.tables.EntryTables.open_context.Goals as goal

pub invariant_of-self : goal.invariant_of-self
invariant_of-self g c = opened c.self.inside.contexts.keys c.place_new.new.set.keys _ _ c.self.inside.callers c.self.inside.exits c.self.inside.first c.self.invariant c.args.context c.place_new.ensures.keys (rw (← c.self.view_is) at c.requires.room) (rw (← c.self.view_is) at c.requires.unknown) c.place_new.ensures.spare

pub returns-clause-callers : goal.returns-clause-callers
returns-clause-callers g c = rw (← c.self.view_is) (callers_given c.self.inside.contexts.keys c.place_new.new.set.keys _ 0 c.self.inside.callers c.self.inside.exits c.self.inside.first c.self.invariant c.args.context c.place_new.ensures.keys (rw (← c.self.view_is) at c.requires.room))

pub returns-clause-exits : goal.returns-clause-exits
returns-clause-exits g c = rw (← c.self.view_is) (exits_given c.self.inside.contexts.keys c.place_new.new.set.keys _ 0 c.self.inside.callers c.self.inside.exits c.self.inside.first c.self.invariant c.args.context c.place_new.ensures.keys (rw (← c.self.view_is) at c.requires.room))
