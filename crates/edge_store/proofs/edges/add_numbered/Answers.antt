use Rattle.edge_store.proofs.Adding.{adds_held}
use Rattle.edge_store.proofs.edges.add_numbered.Goals as goal

pub returns-clause-adds : goal.returns-clause-adds
returns-clause-adds g c = λ f at.
    let did = c.hold.ensures in
    adds_held c.args.pool.now c.hold.new.pool c.args.table.now c.hold.new.table c.args.context c.args.node f c.args.fact _ _ c.page_number-number.ensures c.bit_place-place.ensures.is at c.requires.distinct c.requires.used c.hold.result did.facts
    did.is_new did.was did.there did.kept did.from did.full did.counts did.more did.same did.used did.spare did.room did.once
