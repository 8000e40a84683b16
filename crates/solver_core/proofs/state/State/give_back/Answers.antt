use Rattle.std.proofs.Common.{arith}
use Rattle.solver_core.proofs.Moved.{returned, returned_fit, back_right}
use Rattle.solver_core.proofs.state.State.give_back.Goals as goal

pub invariant_of-self : goal.invariant_of-self
invariant_of-self g c =
    let machine = g.P.Problem.machine c.self.inside.problem.now in
    let parts = c.self.inside.parts in
    let gives = returned machine.root parts.tables.contexts parts.tables.callers parts.tables.exits parts.edges.held parts.marks.items c.self.inside.commits c.self.inside.lag c.self.inside.period c.self.inside.max_edges parts.queue.items c.queue_work.new.queue.items parts.flights.items c.hand_back.new.flights.items c.in-Some.work c.args.w c.self.inside.takes c.queue_work.ensures.items c.in-Some.ensures.emptied c.in-Some.ensures.flew in (
      c.self.invariant.0,
      (
        returned_fit parts.tables.contexts parts.tables.callers parts.tables.exits parts.edges.held parts.queue.items c.queue_work.new.queue.items parts.flights.items c.hand_back.new.flights.items c.in-Some.work c.args.w c.queue_work.ensures.items c.in-Some.ensures.emptied c.in-Some.ensures.flew c.self.invariant.1.0,
        omega (arith, c.self.invariant.1.1, c.in-Some.ensures.less, c.queue_work.ensures.room, c.queue_work.ensures.len),
      ),
      back_right machine (g.P.Problem.reaches c.self.inside.problem.now) _ _ c.self.invariant.2 c.args.w gives,
      c.self.invariant.3,
    )

pub returns-in-Some-clause-event : goal.returns-in-Some-clause-event
returns-in-Some-clause-event g c =
    let machine = g.P.Problem.machine c.self.inside.problem.now in
    let parts = c.self.inside.parts in
    rw (← c.self.view_is) (returned machine.root parts.tables.contexts parts.tables.callers parts.tables.exits parts.edges.held parts.marks.items c.self.inside.commits c.self.inside.lag c.self.inside.period c.self.inside.max_edges parts.queue.items c.queue_work.new.queue.items parts.flights.items c.hand_back.new.flights.items c.in-Some.work c.args.w c.self.inside.takes c.queue_work.ensures.items c.in-Some.ensures.emptied c.in-Some.ensures.flew)

pub returns-in-Some-clause-sound : goal.returns-in-Some-clause-sound
returns-in-Some-clause-sound g c =
    let machine = g.P.Problem.machine c.self.inside.problem.now in
    let parts = c.self.inside.parts in
    back_right machine (g.P.Problem.reaches c.self.inside.problem.now) _ _ c.self.invariant.2 c.args.w (returned machine.root parts.tables.contexts parts.tables.callers parts.tables.exits parts.edges.held parts.marks.items c.self.inside.commits c.self.inside.lag c.self.inside.period c.self.inside.max_edges parts.queue.items c.queue_work.new.queue.items parts.flights.items c.hand_back.new.flights.items c.in-Some.work c.args.w c.self.inside.takes c.queue_work.ensures.items c.in-Some.ensures.emptied c.in-Some.ensures.flew)
