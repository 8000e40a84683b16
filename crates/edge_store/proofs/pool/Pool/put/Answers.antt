use Rattle.edge_store.proofs.Pooled.{fact_put}
use Rattle.edge_store.proofs.pool.Pool.put.Goals as goal

pub replace_at-requires-clause-fresh : goal.replace_at-requires-clause-fresh
replace_at-requires-clause-fresh g c = rw (← c.self.view_is) at c.requires.fresh

pub put_last-requires-clause-fresh : goal.put_last-requires-clause-fresh
put_last-requires-clause-fresh g c = rw (← c.self.view_is) at c.requires.fresh

pub invariant_of-self : goal.invariant_of-self
invariant_of-self g c = rw c.replace_at.ensures.keys (fact_put c.self.inside.facts.keys c.self.inside.counts.items c.self.inside.live c.self.inside.used c.in-Some.number c.self.invariant c.args.fact (rw (← c.self.view_is) at c.requires.fresh))

pub returns-in-Some-clause-distinct : goal.returns-in-Some-clause-distinct
returns-in-Some-clause-distinct g c = rw c.replace_at.ensures.keys (let pool = fact_put c.self.inside.facts.keys c.self.inside.counts.items c.self.inside.live c.self.inside.used c.in-Some.number c.self.invariant c.args.fact (rw (← c.self.view_is) at c.requires.fresh) in pool.distinct)
