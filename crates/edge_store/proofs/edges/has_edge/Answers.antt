use Rattle.edge_store.proofs.Adding.{is_marked, is_bare, not_there}
use Rattle.edge_store.proofs.edges.has_edge.Goals as goal

pub returns-in-Some-clause-yes : goal.returns-in-Some-clause-yes
returns-in-Some-clause-yes g c = λ found. is_marked c.args.pool.now.facts c.args.table.now.pages c.args.table.now.bits c.args.context c.args.node c.args.fact.now c.in-Some.fact _ _ c.page_number-number.ensures c.bit_place-place.ensures.is
    c.in-Some.ensures.there (c.has_bit_at.ensures.yes found)

pub returns-in-Some-clause-no : goal.returns-in-Some-clause-no
returns-in-Some-clause-no g c = λ absent. is_bare c.args.pool.now.facts c.args.table.now.pages c.args.table.now.bits c.args.context c.args.node c.args.fact.now c.in-Some.fact _ _ c.page_number-number.ensures c.bit_place-place.ensures.is
    c.in-Some.ensures.there c.number_of.ensures.distinct (c.has_bit_at.ensures.no absent)

pub returns-in-None-clause-no : goal.returns-in-None-clause-no
returns-in-None-clause-no g c = λ absent. not_there c.args.pool.now.facts c.args.table.now.pages c.args.table.now.bits _ c.in-None.ensures.unknown
