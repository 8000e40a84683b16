use Rattle.std.proofs.Common.{arith}
use Rattle.edge_store.proofs.Stored.{padded_same, padded_room, padded_store, raised_same, raised_room, raised_store, room_here}
use Rattle.edge_store.proofs.store.EdgeStore.reserve.Goals as goal

pub invariant_of-self : goal.invariant_of-self
invariant_of-self g c = padded_store c.self.inside.pool c.self.inside.tables.items c.prepare.new.tables.items c.prepare.ensures.more c.self.inside.room c.self.invariant

pub returns-in_err-prepare-clause-same : goal.returns-in_err-prepare-clause-same
returns-in_err-prepare-clause-same g c = rw (← c.self.view_is) (padded_same c.self.inside.pool c.self.inside.tables.items c.prepare.new.tables.items c.prepare.ensures.more)

pub returns-in_err-prepare-clause-spare : goal.returns-in_err-prepare-clause-spare
returns-in_err-prepare-clause-spare g c = rw (← c.self.view_is) (padded_room c.self.inside.pool c.self.inside.tables.items c.prepare.new.tables.items c.prepare.ensures.more)

pub invariant_of-self-in_err-self-inside : goal.invariant_of-self-in_err-self-inside
invariant_of-self-in_err-self-inside g c = raised_store c.self.inside.pool c.self.inside.tables.items c.prepare.new.tables.items c.prepare.ensures.more c.make_room.new.pool c.args.m c.index_mut.result.now c.make_room.new.table c.index_mut.ensures.value c.in_ok-prepare.ensures.ok c.make_room.ensures.facts c.make_room.ensures.pages c.make_room.ensures.bits c.self.inside.room c.self.inside.room c.self.invariant c.make_room.ensures.counts c.make_room.ensures.held (omega (arith, c.in_err-self-inside.ensures.err)) (omega (arith, c.make_room.ensures.spare, c.self.invariant.numbers)) (omega (arith, c.make_room.ensures.used, c.self.invariant.few))

pub returns-in_err-self-inside-clause-same : goal.returns-in_err-self-inside-clause-same
returns-in_err-self-inside-clause-same g c = rw (← c.self.view_is) (raised_same c.self.inside.pool c.self.inside.tables.items c.prepare.new.tables.items c.prepare.ensures.more c.make_room.new.pool c.args.m c.index_mut.result.now c.make_room.new.table c.index_mut.ensures.value c.in_ok-prepare.ensures.ok c.make_room.ensures.facts c.make_room.ensures.pages c.make_room.ensures.bits)

pub returns-in_err-self-inside-clause-spare : goal.returns-in_err-self-inside-clause-spare
returns-in_err-self-inside-clause-spare g c = rw (← c.self.view_is) (raised_room c.self.inside.pool c.self.inside.tables.items c.prepare.new.tables.items c.prepare.ensures.more c.make_room.new.pool c.args.m c.index_mut.result.now c.make_room.new.table c.index_mut.ensures.value c.in_ok-prepare.ensures.ok c.make_room.ensures.facts c.make_room.ensures.pages c.make_room.ensures.bits c.make_room.ensures.kept)

pub invariant_of-self-2 : goal.invariant_of-self-2
invariant_of-self-2 g c = raised_store c.self.inside.pool c.self.inside.tables.items c.prepare.new.tables.items c.prepare.ensures.more c.make_room.new.pool c.args.m c.index_mut.result.now c.make_room.new.table c.index_mut.ensures.value c.in_ok-prepare.ensures.ok c.make_room.ensures.facts c.make_room.ensures.pages c.make_room.ensures.bits c.self.inside.room c.in_ok-self-inside.field-0 c.self.invariant c.make_room.ensures.counts c.make_room.ensures.held c.in_ok-self-inside.ensures.sum c.in_ok-self-inside.ensures.fits c.in_ok-self-inside.ensures.few

pub returns-clause-same : goal.returns-clause-same
returns-clause-same g c = rw (← c.self.view_is) (raised_same c.self.inside.pool c.self.inside.tables.items c.prepare.new.tables.items c.prepare.ensures.more c.make_room.new.pool c.args.m c.index_mut.result.now c.make_room.new.table c.index_mut.ensures.value c.in_ok-prepare.ensures.ok c.make_room.ensures.facts c.make_room.ensures.pages c.make_room.ensures.bits)

pub returns-clause-spare : goal.returns-clause-spare
returns-clause-spare g c = rw (← c.self.view_is) (raised_room c.self.inside.pool c.self.inside.tables.items c.prepare.new.tables.items c.prepare.ensures.more c.make_room.new.pool c.args.m c.index_mut.result.now c.make_room.new.table c.index_mut.ensures.value c.in_ok-prepare.ensures.ok c.make_room.ensures.facts c.make_room.ensures.pages c.make_room.ensures.bits c.make_room.ensures.kept)

pub returns-clause-ok : goal.returns-clause-ok
returns-clause-ok g c = (let here = room_here c.prepare.new.tables.items c.args.m c.index_mut.result.now c.make_room.new.table c.index_mut.ensures.value c.in_ok-prepare.ensures.ok in let enough = c.in_ok-self-inside.ensures.ok in omega arith)
