use Rattle.std.proofs.Common.{arith}
use Rattle.solver_core.proofs.Opened.{begins, fits, no_hands, opened_right}
use Rattle.solver_core.proofs.state.State.open.Goals as goal

pub invariant_of-result : goal.invariant_of-result
invariant_of-result g c =
    let parts = c.in_ok-parts.parts in
    let did = c.in_ok-parts.ensures in
    let begun = begins (g.P.Problem.machine c.args.problem.now) c.root-root.result c.root-root.ensures c.in_ok-node.node c.args.workers parts.tables.contexts parts.tables.callers parts.tables.exits parts.edges.held parts.queue.items parts.flights.items parts.marks.items did.contexts did.callers did.exits did.edges did.queue did.flights did.marks c.args.period c.args.max_edges c.in_ok-node.ensures in (
      c.requires.period.0,
      (
        fits (g.P.Problem.machine c.args.problem.now) c.root-root.result c.root-root.ensures c.in_ok-node.node c.args.workers parts.tables.contexts parts.tables.callers parts.tables.exits parts.edges.held parts.queue.items parts.flights.items parts.marks.items did.contexts did.callers did.exits did.edges did.queue did.flights did.marks c.ranges.workers.fits,
        omega (arith, did.room, no_hands (g.P.Problem.machine c.args.problem.now) c.root-root.result c.root-root.ensures c.in_ok-node.node c.args.workers parts.tables.contexts parts.tables.callers parts.tables.exits parts.edges.held parts.queue.items parts.flights.items parts.marks.items did.contexts did.callers did.exits did.edges did.queue did.flights did.marks),
      ),
      opened_right (g.P.Problem.machine c.args.problem.now) (g.P.Problem.reaches c.args.problem.now) c.args.period c.args.max_edges c.args.workers _ (g.met.P.Problem.one_start c.args.problem.now) (g.met.P.Problem.reaches_itself c.args.problem.now) c.requires.limit.0 begun,
      c.requires.limit.1,
    )

pub returns-clause-opened : goal.returns-clause-opened
returns-clause-opened g c =
    let parts = c.in_ok-parts.parts in
    let did = c.in_ok-parts.ensures in
    begins (g.P.Problem.machine c.args.problem.now) c.root-root.result c.root-root.ensures c.in_ok-node.node c.args.workers parts.tables.contexts parts.tables.callers parts.tables.exits parts.edges.held parts.queue.items parts.flights.items parts.marks.items did.contexts did.callers did.exits did.edges did.queue did.flights did.marks c.args.period c.args.max_edges c.in_ok-node.ensures

pub returns-clause-sound : goal.returns-clause-sound
returns-clause-sound g c =
    let parts = c.in_ok-parts.parts in
    let did = c.in_ok-parts.ensures in
    let begun = begins (g.P.Problem.machine c.args.problem.now) c.root-root.result c.root-root.ensures c.in_ok-node.node c.args.workers parts.tables.contexts parts.tables.callers parts.tables.exits parts.edges.held parts.queue.items parts.flights.items parts.marks.items did.contexts did.callers did.exits did.edges did.queue did.flights did.marks c.args.period c.args.max_edges c.in_ok-node.ensures in
    opened_right (g.P.Problem.machine c.args.problem.now) (g.P.Problem.reaches c.args.problem.now) c.args.period c.args.max_edges c.args.workers _ (g.met.P.Problem.one_start c.args.problem.now) (g.met.P.Problem.reaches_itself c.args.problem.now) c.requires.limit.0 begun
