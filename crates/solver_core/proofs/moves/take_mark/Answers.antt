use Rattle.solver_core.proofs.Taking.{marked}
use Rattle.solver_core.proofs.moves.take_mark.Goals as goal

pub returns-clause-taken : goal.returns-clause-taken
returns-clause-taken g c = λ commits lag takes period max_edges.
    let parts = c.args.parts.now in
    marked (g.P.Problem.machine c.args.problem.now) parts.tables.contexts parts.tables.callers parts.tables.exits parts.flights.items c.args.context parts.edges.held parts.queue.items parts.marks.items c.push.new.self.items c.args.mark c.in-Ok.ensures.items commits lag takes period max_edges
