use Rattle.entry_tables.proofs.Listed.{lists_same, list_added, room_used}
use Rattle.entry_tables.proofs.rows.EntryRows.add.Goals as goal

pub returns-clause-added : goal.returns-clause-added
returns-clause-added g c = λ t. rw (← c.self.view_is) (list_added c.self.inside.rows.items c.args.at c.index_mut.result.now c.add.new.self c.index_mut.ensures.value (rw (← c.self.view_is) at c.requires.list) c.args.item (c.add.ensures.added t))

pub returns-clause-same : goal.returns-clause-same
returns-clause-same g c = λ f. rw (← c.self.view_is) (lists_same c.self.inside.rows.items c.args.at c.index_mut.result.now c.add.new.self c.index_mut.ensures.value (rw (← c.self.view_is) at c.requires.list) (c.add.ensures.same f))

pub returns-clause-rooms : goal.returns-clause-rooms
returns-clause-rooms g c = rw (← c.self.view_is) (room_used c.self.inside.rows.items c.args.at c.index_mut.result.now c.add.new.self c.index_mut.ensures.value (rw (← c.self.view_is) at c.requires.list) c.add.ensures.room)
