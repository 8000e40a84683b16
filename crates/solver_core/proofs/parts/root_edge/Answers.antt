use Rattle.solver_core.specs.Store.{spot}
use Rattle.solver_core.proofs.Opened.{first_edge}
use Rattle.solver_core.proofs.parts.root_edge.Goals as goal

pub returns : goal.returns
returns g c = first_edge c.new-edges.result.held c.reserve.new.self.held c.add.new.self.held (spot 0 c.args.node c.args.fact) c.add.result c.new-edges.ensures.edges c.new-edges.ensures.found c.reserve.ensures.same c.add.ensures.was c.add.ensures.more c.add.ensures.there c.add.ensures.from c.add.ensures.once
