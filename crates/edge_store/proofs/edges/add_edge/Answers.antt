use Rattle.edge_store.proofs.Adding.{adds_put}
use Rattle.edge_store.proofs.edges.add_edge.Goals as goal

pub returns-in-Some-clause-adds : goal.returns-in-Some-clause-adds
returns-in-Some-clause-adds g c = c.add_numbered.ensures.adds c.args.fact c.in-Some.ensures.there

pub returns-in-None-clause-adds : goal.returns-in-None-clause-adds
returns-in-None-clause-adds g c =
    let put = c.put-number.ensures in
    let did = c.add_numbered-is_new.ensures in
    adds_put c.args.pool.now c.put-number.new.self c.add_numbered-is_new.new.pool c.args.table.now c.add_numbered-is_new.new.table _ c.add_numbered-is_new.result c.requires.used
    put.kept put.back put.counts c.in-None.ensures.unknown put.used put.room did.spare (did.adds c.args.fact put.there)
