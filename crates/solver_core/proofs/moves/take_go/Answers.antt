use Rattle.std.proofs.Common.{refl}
use Rattle.solver_core.proofs.Taking.{went, was_there, went_fit, was_fit}
use Rattle.solver_core.proofs.moves.take_go.Goals as goal

pub returns-then-add-clause-fit : goal.returns-then-add-clause-fit
returns-then-add-clause-fit g c =
    let parts = c.args.parts.now in
    went_fit parts.tables.contexts parts.tables.callers parts.tables.exits parts.flights.items parts.edges.held c.add.new.self.held parts.queue.items c.args.context c.args.node c.args.fact c.requires.known c.add.ensures.once c.add.ensures.from c.requires.fit c.queue_work.new.queue.items c.queue_work.ensures.items

pub returns-then-add-clause-taken : goal.returns-then-add-clause-taken
returns-then-add-clause-taken g c = λ commits lag takes period max_edges.
    let parts = c.args.parts.now in
    went (g.P.Problem.machine c.args.problem.now) parts.tables.contexts parts.tables.callers parts.tables.exits parts.flights.items c.args.context parts.edges.held c.add.new.self.held c.args.node c.args.fact c.add.ensures.there c.add.ensures.kept c.add.ensures.from parts.queue.items c.queue_work.new.queue.items c.requires.fit c.requires.known (c.if-add.ensures.is_new refl) (c.if-add.ensures.more refl) c.queue_work.ensures.items parts.marks.items commits lag takes period max_edges

pub returns-else-add-clause-fit : goal.returns-else-add-clause-fit
returns-else-add-clause-fit g c =
    let parts = c.args.parts.now in
    was_fit parts.tables.contexts parts.tables.callers parts.tables.exits parts.flights.items parts.edges.held c.add.new.self.held parts.queue.items c.args.context c.args.node c.args.fact c.requires.known c.add.ensures.once c.add.ensures.from c.requires.fit

pub returns-else-add-clause-taken : goal.returns-else-add-clause-taken
returns-else-add-clause-taken g c = λ commits lag takes period max_edges.
    let parts = c.args.parts.now in
    was_there (g.P.Problem.machine c.args.problem.now) parts.tables.contexts parts.tables.callers parts.tables.exits parts.flights.items c.args.context parts.edges.held c.add.new.self.held c.args.node c.args.fact c.add.ensures.there c.add.ensures.kept c.add.ensures.from parts.queue.items (c.if-add.ensures.was refl) (c.if-add.ensures.same refl) parts.marks.items commits lag takes period max_edges
