use Rattle.std.proofs.Common.{◌<◌, inl, inr, length, set, arith}
use Rattle.edge_store.specs.Pages.{spot}
use Rattle.edge_store.proofs.Stored.{within_room, room_at, add_store, has_new, has_was, has_there, has_kept, has_from, add_once, room_left, room_others, facts_kept, into, out}
use Rattle.edge_store.proofs.store.EdgeStore.add.Goals as goal

pub invariant_of-self : goal.invariant_of-self
invariant_of-self g c =
    let pool = c.self.inside.pool in
    let tables = c.self.inside.tables.items in
    let more = c.add_edge-added.new.pool in
    let u = c.add_edge-added.new.table in
    let within : c.args.m < length tables = within_room tables c.args.m (let some = rw (← c.self.view_is) at c.requires in omega (arith, room_at tables c.args.m)) in
    let x = spot c.args.context c.args.node c.args.fact in
    let adds = c.add_edge-added.ensures.adds in
    add_store pool tables c.self.inside.room c.self.invariant c.args.m c.index_mut.result.now c.index_mut.ensures.value within more u x c.add_edge-added.result.is_new adds c.add_edge-added.ensures.distinct

pub returns-clause-is_new : goal.returns-clause-is_new
returns-clause-is_new g c =
    let pool = c.self.inside.pool in
    let tables = c.self.inside.tables.items in
    let more = c.add_edge-added.new.pool in
    let u = c.add_edge-added.new.table in
    let within : c.args.m < length tables = within_room tables c.args.m (let some = rw (← c.self.view_is) at c.requires in omega (arith, room_at tables c.args.m)) in
    let x = spot c.args.context c.args.node c.args.fact in
    let adds = c.add_edge-added.ensures.adds in
    rw (← c.self.view_is) (λ is_fresh h. has_new pool tables c.self.inside.room c.self.invariant c.args.m c.index_mut.result.now c.index_mut.ensures.value within more u x c.add_edge-added.result.is_new adds is_fresh (out pool.facts tables c.args.m x h))

pub returns-clause-was : goal.returns-clause-was
returns-clause-was g c =
    let pool = c.self.inside.pool in
    let tables = c.self.inside.tables.items in
    let more = c.add_edge-added.new.pool in
    let u = c.add_edge-added.new.table in
    let within : c.args.m < length tables = within_room tables c.args.m (let some = rw (← c.self.view_is) at c.requires in omega (arith, room_at tables c.args.m)) in
    let x = spot c.args.context c.args.node c.args.fact in
    let adds = c.add_edge-added.ensures.adds in
    rw (← c.self.view_is) (λ stale. into pool.facts tables c.args.m x (has_was pool tables c.self.inside.room c.self.invariant c.args.m c.index_mut.result.now c.index_mut.ensures.value within more u x c.add_edge-added.result.is_new adds stale))

pub returns-clause-there : goal.returns-clause-there
returns-clause-there g c =
    let pool = c.self.inside.pool in
    let tables = c.self.inside.tables.items in
    let more = c.add_edge-added.new.pool in
    let u = c.add_edge-added.new.table in
    let within : c.args.m < length tables = within_room tables c.args.m (let some = rw (← c.self.view_is) at c.requires in omega (arith, room_at tables c.args.m)) in
    let x = spot c.args.context c.args.node c.args.fact in
    let adds = c.add_edge-added.ensures.adds in
    into more.facts (set tables c.args.m u) c.args.m x (has_there pool tables c.self.inside.room c.self.invariant c.args.m c.index_mut.result.now c.index_mut.ensures.value within more u x c.add_edge-added.result.is_new adds)

pub returns-clause-kept : goal.returns-clause-kept
returns-clause-kept g c =
    let pool = c.self.inside.pool in
    let tables = c.self.inside.tables.items in
    let more = c.add_edge-added.new.pool in
    let u = c.add_edge-added.new.table in
    let within : c.args.m < length tables = within_room tables c.args.m (let some = rw (← c.self.view_is) at c.requires in omega (arith, room_at tables c.args.m)) in
    let x = spot c.args.context c.args.node c.args.fact in
    let adds = c.add_edge-added.ensures.adds in
    rw (← c.self.view_is) (λ k e h. into more.facts (set tables c.args.m u) k e (has_kept pool tables c.self.inside.room c.self.invariant c.args.m c.index_mut.result.now c.index_mut.ensures.value within more u x c.add_edge-added.result.is_new adds k e (out pool.facts tables k e h)))

pub returns-clause-from : goal.returns-clause-from
returns-clause-from g c =
    let pool = c.self.inside.pool in
    let tables = c.self.inside.tables.items in
    let more = c.add_edge-added.new.pool in
    let u = c.add_edge-added.new.table in
    let within : c.args.m < length tables = within_room tables c.args.m (let some = rw (← c.self.view_is) at c.requires in omega (arith, room_at tables c.args.m)) in
    let x = spot c.args.context c.args.node c.args.fact in
    let adds = c.add_edge-added.ensures.adds in
    rw (← c.self.view_is) (λ k e h. elim (has_from pool tables c.self.inside.room c.self.invariant c.args.m c.index_mut.result.now c.index_mut.ensures.value within more u x c.add_edge-added.result.is_new adds k e (out more.facts (set tables c.args.m u) k e h)) [ inl old ↦ inl (into pool.facts tables k e old) | inr new ↦ inr new ])

pub returns-clause-room : goal.returns-clause-room
returns-clause-room g c =
    let pool = c.self.inside.pool in
    let tables = c.self.inside.tables.items in
    let more = c.add_edge-added.new.pool in
    let u = c.add_edge-added.new.table in
    let within : c.args.m < length tables = within_room tables c.args.m (let some = rw (← c.self.view_is) at c.requires in omega (arith, room_at tables c.args.m)) in
    let x = spot c.args.context c.args.node c.args.fact in
    let adds = c.add_edge-added.ensures.adds in
    rw (← c.self.view_is) (room_left pool tables c.self.inside.room c.self.invariant c.args.m c.index_mut.result.now c.index_mut.ensures.value within more u x c.add_edge-added.result.is_new adds)

pub returns-clause-others : goal.returns-clause-others
returns-clause-others g c =
    let pool = c.self.inside.pool in
    let tables = c.self.inside.tables.items in
    let more = c.add_edge-added.new.pool in
    let u = c.add_edge-added.new.table in
    let within : c.args.m < length tables = within_room tables c.args.m (let some = rw (← c.self.view_is) at c.requires in omega (arith, room_at tables c.args.m)) in
    let x = spot c.args.context c.args.node c.args.fact in
    let adds = c.add_edge-added.ensures.adds in
    rw (← c.self.view_is) (λ k other. room_others pool tables c.self.inside.room c.self.invariant c.args.m c.index_mut.result.now c.index_mut.ensures.value within more u x c.add_edge-added.result.is_new adds k other)

pub returns-clause-facts : goal.returns-clause-facts
returns-clause-facts g c =
    rw (← c.self.view_is) (facts_kept c.self.inside.pool c.self.inside.tables.items c.self.inside.room c.self.invariant c.add_edge-added.new.pool c.add_edge-added.ensures.adds.numbers)

pub returns-clause-once : goal.returns-clause-once
returns-clause-once g c =
    let pool = c.self.inside.pool in
    let tables = c.self.inside.tables.items in
    let within : c.args.m < length tables = within_room tables c.args.m (let some = rw (← c.self.view_is) at c.requires in omega (arith, room_at tables c.args.m)) in
    let x = spot c.args.context c.args.node c.args.fact in
    add_once pool tables c.self.inside.room c.self.invariant c.args.m c.index_mut.result.now c.index_mut.ensures.value within c.add_edge-added.new.pool c.add_edge-added.new.table x c.add_edge-added.result.is_new c.add_edge-added.ensures.adds c.add_edge-added.ensures.distinct
