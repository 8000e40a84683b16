use Rattle.std.proofs.Common.{refl}
use Rattle.solver_core.proofs.Joining.{exit_fit_as, exit_taken_as, exit_was_as}
use Rattle.solver_core.proofs.Used.{uses_exit, uses_no_exit}
use Rattle.solver_core.proofs.moves.take_exit.Goals as goal

pub returns-then-add_exit-clause-fit : goal.returns-then-add_exit-clause-fit
returns-then-add_exit-clause-fit g c =
    let parts = c.args.parts.now in
    exit_fit_as (g.P.Problem.machine c.args.problem.now) parts.tables.contexts parts.edges.held parts.flights.items c.args.context parts.tables.callers parts.tables.exits parts.queue.items c.requires.fit c.requires.known c.add_exit.new.self.contexts c.add_exit.new.self.callers c.add_exit.ensures.contexts c.add_exit.ensures.callers c.args.exit c.add_exit.new.self.exits c.meet_callers.new.queue.items (c.if-add_exit.ensures.added refl) c.meet_callers.ensures.joins

pub returns-then-add_exit-clause-taken : goal.returns-then-add_exit-clause-taken
returns-then-add_exit-clause-taken g c = λ commits lag takes period max_edges.
    let parts = c.args.parts.now in
    exit_taken_as (g.P.Problem.machine c.args.problem.now) parts.tables.contexts parts.edges.held parts.flights.items c.args.context parts.tables.callers parts.tables.exits parts.queue.items c.requires.fit c.requires.known c.add_exit.new.self.contexts c.add_exit.new.self.callers c.add_exit.ensures.contexts c.add_exit.ensures.callers c.args.exit c.add_exit.new.self.exits c.meet_callers.new.queue.items (c.if-add_exit.ensures.added refl) c.meet_callers.ensures.joins (c.if-add_exit.ensures.is_new refl) c.meet_callers.ensures.once parts.marks.items commits lag takes period max_edges

pub returns-else-add_exit-clause-taken : goal.returns-else-add_exit-clause-taken
returns-else-add_exit-clause-taken g c = λ commits lag takes period max_edges.
    let parts = c.args.parts.now in
    exit_was_as (g.P.Problem.machine c.args.problem.now) parts.tables.contexts parts.edges.held parts.flights.items c.args.context parts.tables.callers parts.tables.exits parts.queue.items c.requires.fit c.requires.known c.add_exit.new.self.contexts c.add_exit.new.self.callers c.add_exit.ensures.contexts c.add_exit.ensures.callers c.args.exit c.add_exit.new.self.exits (c.if-add_exit.ensures.was refl) (c.if-add_exit.ensures.same refl) parts.marks.items commits lag takes period max_edges

pub returns-then-add_exit-clause-uses : goal.returns-then-add_exit-clause-uses
returns-then-add_exit-clause-uses g c = λ site. uses_exit c.args.parts.now.tables c.add_exit.new.self c.add_exit.ensures.contexts c.add_exit.ensures.spare c.add_exit.ensures.first site c.args.context c.args.exit (c.if-add_exit.ensures.added refl) c.add_exit.ensures.callers c.add_exit.ensures.spare_exits c.add_exit.ensures.spare_callers

pub returns-else-add_exit-clause-uses : goal.returns-else-add_exit-clause-uses
returns-else-add_exit-clause-uses g c = λ site. uses_no_exit c.args.parts.now.tables c.add_exit.new.self c.add_exit.ensures.contexts c.add_exit.ensures.spare c.add_exit.ensures.first site c.args.context (c.if-add_exit.ensures.same refl) c.add_exit.ensures.callers c.add_exit.ensures.spare_exits c.add_exit.ensures.spare_callers
