use Rattle.std.proofs.Common.{arith, ◌∙◌}
use Rattle.edge_store.proofs.Stored.{held_here, held_past, edges_here, edges_past, held_long}
use Rattle.edge_store.proofs.store.EdgeStore.holds.Goals as goal

pub returns-then-at-len-clause-distinct : goal.returns-then-at-len-clause-distinct
returns-then-at-len-clause-distinct g c = rw (← c.self.view_is) (edges_here c.self.inside.pool c.self.inside.tables.items c.self.inside.room c.self.invariant c.args.m c.index.result.now c.index.ensures (omega arith) c.held.ensures.distinct)

pub returns-then-at-len-clause-count : goal.returns-then-at-len-clause-count
returns-then-at-len-clause-count g c =
    let pool = c.self.inside.pool in
    let tables = c.self.inside.tables.items in
    let t = c.index.result.now in
    rw (← c.self.view_is) (c.held.ensures.is ∙ held_long pool tables c.self.inside.room c.self.invariant c.args.m t.held (edges_here pool tables c.self.inside.room c.self.invariant c.args.m t c.index.ensures (omega arith) c.held.ensures.distinct)
    (held_here pool tables c.self.inside.room c.self.invariant c.args.m t c.index.ensures (omega arith)))

pub returns-else-at-len-clause-distinct : goal.returns-else-at-len-clause-distinct
returns-else-at-len-clause-distinct g c = rw (← c.self.view_is) (edges_past c.self.inside.pool c.self.inside.tables.items c.self.inside.room c.self.invariant c.args.m (omega arith))

pub returns-else-at-len-clause-count : goal.returns-else-at-len-clause-count
returns-else-at-len-clause-count g c =
    let pool = c.self.inside.pool in
    let tables = c.self.inside.tables.items in
    rw (← c.self.view_is) (held_long pool tables c.self.inside.room c.self.invariant c.args.m 0 (edges_past pool tables c.self.inside.room c.self.invariant c.args.m (omega arith))
    (held_past pool tables c.self.inside.room c.self.invariant c.args.m (omega arith)))
