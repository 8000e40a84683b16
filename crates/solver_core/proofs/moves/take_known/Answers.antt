use Rattle.std.proofs.Common.{arith, refl}
use Rattle.solver_core.proofs.Calling.{call_fit_as, call_taken_as, call_was_as}
use Rattle.entry_tables.specs.Tables.{call_site}
use Rattle.solver_core.proofs.Used.{uses_caller, uses_no_caller}
use Rattle.solver_core.proofs.moves.take_known.Goals as goal

pub returns-then-add_caller-clause-fit : goal.returns-then-add_caller-clause-fit
returns-then-add_caller-clause-fit g c =
    let parts = c.args.parts.now in
    call_fit_as (g.P.Problem.machine c.args.problem.now) parts.tables.contexts parts.edges.held parts.flights.items c.args.context c.args.callee c.args.at parts.tables.callers parts.tables.exits parts.queue.items c.requires.fit c.requires.known c.requires.there c.add_caller.new.self.contexts c.add_caller.new.self.exits c.add_caller.ensures.contexts c.add_caller.ensures.exits c.add_caller.new.self.callers c.meet_exits.new.queue.items (c.if-add_caller.ensures.added refl) c.meet_exits.ensures.joins

pub returns-then-add_caller-clause-taken : goal.returns-then-add_caller-clause-taken
returns-then-add_caller-clause-taken g c = λ commits lag takes period max_edges.
    let parts = c.args.parts.now in
    call_taken_as (g.P.Problem.machine c.args.problem.now) parts.tables.contexts parts.edges.held parts.flights.items c.args.context c.args.callee c.args.at parts.tables.callers parts.tables.exits parts.queue.items c.requires.fit c.requires.known c.requires.there c.add_caller.new.self.contexts c.add_caller.new.self.exits c.add_caller.ensures.contexts c.add_caller.ensures.exits c.add_caller.new.self.callers c.meet_exits.new.queue.items (c.if-add_caller.ensures.added refl) c.meet_exits.ensures.joins (c.if-add_caller.ensures.is_new refl) c.meet_exits.ensures.once parts.marks.items commits lag takes period max_edges

pub returns-else-add_caller-clause-taken : goal.returns-else-add_caller-clause-taken
returns-else-add_caller-clause-taken g c = λ commits lag takes period max_edges.
    let parts = c.args.parts.now in
    call_was_as (g.P.Problem.machine c.args.problem.now) parts.tables.contexts parts.edges.held parts.flights.items c.args.context c.args.callee c.args.at parts.tables.callers parts.tables.exits parts.queue.items c.requires.fit c.requires.known c.requires.there c.add_caller.new.self.contexts c.add_caller.new.self.exits c.add_caller.ensures.contexts c.add_caller.ensures.exits c.add_caller.new.self.callers (c.if-add_caller.ensures.was refl) (c.if-add_caller.ensures.same refl) parts.marks.items commits lag takes period max_edges

pub returns-then-add_caller-clause-uses : goal.returns-then-add_caller-clause-uses
returns-then-add_caller-clause-uses g c = uses_caller c.args.parts.now.tables c.add_caller.new.self c.add_caller.ensures.contexts c.add_caller.ensures.spare c.add_caller.ensures.first c.args.callee (call_site c.args.context c.args.at) (omega (arith, c.requires.there, c.requires.fit.callers_long)) (c.if-add_caller.ensures.added refl) c.add_caller.ensures.exits c.add_caller.ensures.spare_callers c.add_caller.ensures.spare_exits

pub returns-else-add_caller-clause-uses : goal.returns-else-add_caller-clause-uses
returns-else-add_caller-clause-uses g c = uses_no_caller c.args.parts.now.tables c.add_caller.new.self c.add_caller.ensures.contexts c.add_caller.ensures.spare c.add_caller.ensures.first c.args.callee (call_site c.args.context c.args.at) (c.if-add_caller.ensures.was refl) (c.if-add_caller.ensures.same refl) c.add_caller.ensures.exits c.add_caller.ensures.spare_callers c.add_caller.ensures.spare_exits
