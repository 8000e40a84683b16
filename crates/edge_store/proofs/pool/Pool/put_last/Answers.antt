use Rattle.std.proofs.Common.{◌<◌, ◌^◌, length, get_or, arith, ap, ◌∙◌}
use Rattle.edge_store.proofs.Listed.{distinct_push}
use Rattle.edge_store.proofs.Pooled.{fact_added, counts_added}
use Rattle.edge_store.proofs.pool.Pool.put_last.Goals as goal

pub invariant_of-self : goal.invariant_of-self
invariant_of-self g c =
    let room = rw (← c.self.view_is) at c.requires.room in
    let few : length c.self.inside.facts.keys < 2 ^ 32 = omega arith in
    rw (c.place_new-number.ensures.keys, c.in-Ok.ensures.items) (fact_added c.self.inside.facts.keys c.self.inside.counts.items c.self.inside.live c.self.inside.used 0 c.self.invariant c.args.fact (rw (← c.self.view_is) at c.requires.fresh) few)

pub returns-clause-counts : goal.returns-clause-counts
returns-clause-counts g c = λ n. rw (← c.self.view_is) (ap (λ xs. get_or xs n 0) c.in-Ok.ensures.items ∙ counts_added c.self.inside.facts.keys c.self.inside.counts.items c.self.inside.live c.self.inside.used c.self.invariant n)

pub returns-clause-distinct : goal.returns-clause-distinct
returns-clause-distinct g c = rw c.place_new-number.ensures.keys (distinct_push c.self.inside.facts.keys c.args.fact c.self.invariant.distinct (rw (← c.self.view_is) at c.requires.fresh))
