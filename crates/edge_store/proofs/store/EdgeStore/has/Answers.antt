use Rattle.std.proofs.Common.{arith}
use Rattle.edge_store.proofs.Stored.{has_found, has_none, has_past}
use Rattle.edge_store.proofs.store.EdgeStore.has.Goals as goal

pub returns-then-at-len-clause-no : goal.returns-then-at-len-clause-no
returns-then-at-len-clause-no g c = rw (← c.self.view_is) (λ absent. has_past c.self.inside.pool.facts c.self.inside.tables.items c.args.m _ (omega arith))

pub returns-clause-yes : goal.returns-clause-yes
returns-clause-yes g c = rw (← c.self.view_is) (λ found. has_found c.self.inside.pool.facts c.self.inside.tables.items c.args.m c.index.result.now c.index.ensures (omega arith) _ (c.has_edge.ensures.yes found))

pub returns-clause-no : goal.returns-clause-no
returns-clause-no g c = rw (← c.self.view_is) (λ absent. has_none c.self.inside.pool.facts c.self.inside.tables.items c.args.m c.index.result.now c.index.ensures (omega arith) _ (c.has_edge.ensures.no absent))
