use Rattle.std.proofs.Common.{refl}
use Rattle.statement_graph.specs.Statements.{first_of}
use Rattle.statement_graph.proofs.Ends.{place_above, place_exact}
use Rattle.statement_graph.proofs.graph.StatementGraph.place.Goals as goal

pub first-first-requires : goal.first-first-requires
first-first-requires c = (place_above c.args.self.now c.args.s c.owner.result (first_of c.args.self.now c.owner.result.0) refl ((c.owner.ensures c.owner.result).0 refl)).0

pub overflow_sub-result : goal.overflow_sub-result
overflow_sub-result c = (place_above c.args.self.now c.args.s c.owner.result c.first-first.result.0 c.first-first.ensures.number ((c.owner.ensures c.owner.result).0 refl)).1

pub returns : goal.returns
returns c = place_exact c.args.self.now c.args.s c.owner.result c.first-first.result.0 c.first-first.ensures.number ((c.owner.ensures c.owner.result).0 refl)
