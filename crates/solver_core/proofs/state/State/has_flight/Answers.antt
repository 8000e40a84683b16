use Rattle.solver_core.proofs.Landed.{flies_where}
use Rattle.solver_core.proofs.state.State.has_flight.Goals as goal

pub returns-clause-flies : goal.returns-clause-flies
returns-clause-flies g c =
    let machine = g.P.Problem.machine c.self.inside.problem.now in
    rw (← c.self.view_is) (flies_where machine.root c.self.inside.parts.tables.contexts c.self.inside.parts.flights.items c.args.w c.index.result.now c.is_some.result (rw (← c.self.view_is) at c.requires) c.index.ensures c.is_some.ensures)
