use Rattle.statement_graph.proofs.Places.{own_of}
use Rattle.statement_graph.proofs.successors.own_places.Goals as goal

pub returns : goal.returns
returns c = own_of c.args.stmt.now c.args.count c.args.place c.new-places.result c.add_targets.new.places c.add_next.new.places c.new-places.ensures c.in_ok-add_targets.ensures c.in_ok-add_next.ensures
