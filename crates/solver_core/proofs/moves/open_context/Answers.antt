use Rattle.solver_core.proofs.Widened.{widened_as, widened_fit_as}
use Rattle.solver_core.proofs.Used.{uses_context}
use Rattle.solver_core.proofs.moves.open_context.Goals as goal

pub returns-clause-fit : goal.returns-clause-fit
returns-clause-fit g c =
    let parts = c.args.parts.now in
    widened_fit_as (g.P.Problem.machine c.args.problem.now).root parts.tables.contexts parts.tables.callers parts.tables.exits parts.edges.held parts.queue.items parts.flights.items c.args.context c.requires.fit _ _ _ c.open_context.ensures.contexts c.open_context.ensures.callers c.open_context.ensures.exits c.requires.unknown

pub returns-clause-opened : goal.returns-clause-opened
returns-clause-opened g c = λ commits lag takes period max_edges.
    let parts = c.args.parts.now in
    widened_as (g.P.Problem.machine c.args.problem.now).root parts.tables.contexts parts.tables.callers parts.tables.exits parts.edges.held parts.queue.items parts.flights.items c.args.context c.requires.fit _ _ _ c.open_context.ensures.contexts c.open_context.ensures.callers c.open_context.ensures.exits parts.marks.items commits lag takes period max_edges

pub returns-clause-uses : goal.returns-clause-uses
returns-clause-uses g c =
    let did = c.open_context.ensures in
    λ site. uses_context c.args.parts.now.tables c.open_context.new.self site c.args.context c.open_context.result c.requires.unknown c.requires.fit.exits_long did.number did.contexts did.callers did.exits did.spare did.first did.ready did.spare_callers did.spare_exits
