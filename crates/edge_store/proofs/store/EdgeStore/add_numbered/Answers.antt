use Rattle.std.proofs.Common.{◌<◌, inl, inr, length, set, arith, subst, sym}
use Rattle.ifds_model.specs.State.{IsDistinct}
use Rattle.edge_store.specs.Pages.{spot}
use Rattle.edge_store.proofs.Adding.{item_at}
use Rattle.edge_store.proofs.Stored.{within_room, room_at, add_store, has_new, has_was, has_there, has_kept, has_from, add_once, room_left, room_others, into, out}
use Rattle.edge_store.proofs.store.EdgeStore.add_numbered.Goals as goal

pub invariant_of-self : goal.invariant_of-self
invariant_of-self g c =
    let pool = c.self.inside.pool in
    let tables = c.self.inside.tables.items in
    let more = c.add_numbered-is_new.new.pool in
    let u = c.add_numbered-is_new.new.table in
    let within : c.args.m < length tables = within_room tables c.args.m (let some = rw (← c.self.view_is) at c.requires.room in omega (arith, room_at tables c.args.m)) in
    let number_in = rw (← c.self.view_is) at c.requires.within in
    let found = item_at pool.facts c.args.number number_in in
    let x = spot c.args.context c.args.node found.0 in
    let adds = c.add_numbered-is_new.ensures.adds found.0 found.1 in
    add_store pool tables c.self.inside.room c.self.invariant c.args.m c.index_mut.result.now c.index_mut.ensures.value within more u x c.add_numbered-is_new.result adds (subst IsDistinct (sym c.add_numbered-is_new.ensures.facts) c.self.invariant.distinct)

pub returns-clause-is_new : goal.returns-clause-is_new
returns-clause-is_new g c =
    let pool = c.self.inside.pool in
    let tables = c.self.inside.tables.items in
    let more = c.add_numbered-is_new.new.pool in
    let u = c.add_numbered-is_new.new.table in
    let within : c.args.m < length tables = within_room tables c.args.m (let some = rw (← c.self.view_is) at c.requires.room in omega (arith, room_at tables c.args.m)) in
    rw (← c.self.view_is) (λ f at is_fresh h. has_new pool tables c.self.inside.room c.self.invariant c.args.m c.index_mut.result.now c.index_mut.ensures.value within more u (spot c.args.context c.args.node f) c.add_numbered-is_new.result (c.add_numbered-is_new.ensures.adds f at) is_fresh (out pool.facts tables c.args.m (spot c.args.context c.args.node f) h))

pub returns-clause-was : goal.returns-clause-was
returns-clause-was g c =
    let pool = c.self.inside.pool in
    let tables = c.self.inside.tables.items in
    let more = c.add_numbered-is_new.new.pool in
    let u = c.add_numbered-is_new.new.table in
    let within : c.args.m < length tables = within_room tables c.args.m (let some = rw (← c.self.view_is) at c.requires.room in omega (arith, room_at tables c.args.m)) in
    rw (← c.self.view_is) (λ f at stale. into pool.facts tables c.args.m (spot c.args.context c.args.node f) (has_was pool tables c.self.inside.room c.self.invariant c.args.m c.index_mut.result.now c.index_mut.ensures.value within more u (spot c.args.context c.args.node f) c.add_numbered-is_new.result (c.add_numbered-is_new.ensures.adds f at) stale))

pub returns-clause-there : goal.returns-clause-there
returns-clause-there g c =
    let pool = c.self.inside.pool in
    let tables = c.self.inside.tables.items in
    let more = c.add_numbered-is_new.new.pool in
    let u = c.add_numbered-is_new.new.table in
    let within : c.args.m < length tables = within_room tables c.args.m (let some = rw (← c.self.view_is) at c.requires.room in omega (arith, room_at tables c.args.m)) in
    rw (← c.self.view_is) (λ f at. into more.facts (set tables c.args.m u) c.args.m (spot c.args.context c.args.node f) (has_there pool tables c.self.inside.room c.self.invariant c.args.m c.index_mut.result.now c.index_mut.ensures.value within more u (spot c.args.context c.args.node f) c.add_numbered-is_new.result (c.add_numbered-is_new.ensures.adds f at)))

pub returns-clause-kept : goal.returns-clause-kept
returns-clause-kept g c =
    let pool = c.self.inside.pool in
    let tables = c.self.inside.tables.items in
    let more = c.add_numbered-is_new.new.pool in
    let u = c.add_numbered-is_new.new.table in
    let within : c.args.m < length tables = within_room tables c.args.m (let some = rw (← c.self.view_is) at c.requires.room in omega (arith, room_at tables c.args.m)) in
    let number_in = rw (← c.self.view_is) at c.requires.within in
    let found = item_at pool.facts c.args.number number_in in
    let x = spot c.args.context c.args.node found.0 in
    let adds = c.add_numbered-is_new.ensures.adds found.0 found.1 in
    rw (← c.self.view_is) (λ k e h. into more.facts (set tables c.args.m u) k e (has_kept pool tables c.self.inside.room c.self.invariant c.args.m c.index_mut.result.now c.index_mut.ensures.value within more u x c.add_numbered-is_new.result adds k e (out pool.facts tables k e h)))

pub returns-clause-from : goal.returns-clause-from
returns-clause-from g c =
    let pool = c.self.inside.pool in
    let tables = c.self.inside.tables.items in
    let more = c.add_numbered-is_new.new.pool in
    let u = c.add_numbered-is_new.new.table in
    let within : c.args.m < length tables = within_room tables c.args.m (let some = rw (← c.self.view_is) at c.requires.room in omega (arith, room_at tables c.args.m)) in
    rw (← c.self.view_is) (λ f at k e h. elim (has_from pool tables c.self.inside.room c.self.invariant c.args.m c.index_mut.result.now c.index_mut.ensures.value within more u (spot c.args.context c.args.node f) c.add_numbered-is_new.result (c.add_numbered-is_new.ensures.adds f at) k e (out more.facts (set tables c.args.m u) k e h)) [ inl old ↦ inl (into pool.facts tables k e old) | inr new ↦ inr new ])

pub returns-clause-room : goal.returns-clause-room
returns-clause-room g c =
    let pool = c.self.inside.pool in
    let tables = c.self.inside.tables.items in
    let more = c.add_numbered-is_new.new.pool in
    let u = c.add_numbered-is_new.new.table in
    let within : c.args.m < length tables = within_room tables c.args.m (let some = rw (← c.self.view_is) at c.requires.room in omega (arith, room_at tables c.args.m)) in
    let number_in = rw (← c.self.view_is) at c.requires.within in
    let found = item_at pool.facts c.args.number number_in in
    let x = spot c.args.context c.args.node found.0 in
    let adds = c.add_numbered-is_new.ensures.adds found.0 found.1 in
    rw (← c.self.view_is) (room_left pool tables c.self.inside.room c.self.invariant c.args.m c.index_mut.result.now c.index_mut.ensures.value within more u x c.add_numbered-is_new.result adds)

pub returns-clause-others : goal.returns-clause-others
returns-clause-others g c =
    let pool = c.self.inside.pool in
    let tables = c.self.inside.tables.items in
    let more = c.add_numbered-is_new.new.pool in
    let u = c.add_numbered-is_new.new.table in
    let within : c.args.m < length tables = within_room tables c.args.m (let some = rw (← c.self.view_is) at c.requires.room in omega (arith, room_at tables c.args.m)) in
    let number_in = rw (← c.self.view_is) at c.requires.within in
    let found = item_at pool.facts c.args.number number_in in
    let x = spot c.args.context c.args.node found.0 in
    let adds = c.add_numbered-is_new.ensures.adds found.0 found.1 in
    rw (← c.self.view_is) (λ k other. room_others pool tables c.self.inside.room c.self.invariant c.args.m c.index_mut.result.now c.index_mut.ensures.value within more u x c.add_numbered-is_new.result adds k other)

pub returns-clause-once : goal.returns-clause-once
returns-clause-once g c =
    let pool = c.self.inside.pool in
    let tables = c.self.inside.tables.items in
    let within : c.args.m < length tables = within_room tables c.args.m (let some = rw (← c.self.view_is) at c.requires.room in omega (arith, room_at tables c.args.m)) in
    let found = item_at pool.facts c.args.number (rw (← c.self.view_is) at c.requires.within) in
    add_once pool tables c.self.inside.room c.self.invariant c.args.m c.index_mut.result.now c.index_mut.ensures.value within c.add_numbered-is_new.new.pool c.add_numbered-is_new.new.table (spot c.args.context c.args.node found.0) c.add_numbered-is_new.result (c.add_numbered-is_new.ensures.adds found.0 found.1) (subst IsDistinct (sym c.add_numbered-is_new.ensures.facts) c.self.invariant.distinct)
