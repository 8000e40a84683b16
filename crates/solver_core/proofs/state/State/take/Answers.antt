use Rattle.std.proofs.Common.{arith, refl, ap, subst, sym, ◌∙◌}
use Rattle.solver_core.specs.Hands.{in_hand}
use Rattle.solver_core.specs.Seen.{IsRight}
use Rattle.solver_core.proofs.Moved.{idle_work, named_there, sent, sent_fit, still, waits, over, took, take_right}
use Rattle.solver_core.proofs.state.State.take.Goals as goal

pub returns-in_default-clause-took : goal.returns-in_default-clause-took
returns-in_default-clause-took g c = λ job is. absurd (c.waiting.ensures.took job is)

pub returns-in_default-clause-idle : goal.returns-in_default-clause-idle
returns-in_default-clause-idle g c = λ n is.
    let parts = c.self.inside.parts in
    let answer = c.waiting.ensures.idle n is in
    rw (← c.self.view_is) (waits (g.P.Problem.machine c.self.inside.problem.now).root parts.tables.contexts parts.tables.callers parts.tables.exits parts.edges.held parts.marks.items c.self.inside.commits c.self.inside.lag c.self.inside.period c.self.inside.max_edges parts.queue.items c.work_at.new.queue.items parts.flights.items c.args.place c.self.inside.takes n c.out_of.result (rw (← c.self.view_is) at c.requires.place) c.in_default.ensures.beyond c.in_default.ensures.stays answer.0 answer.1 (c.out_of.ensures ∙ ap in_hand c.as_slice.ensures.value))

pub returns-in_default-clause-finished : goal.returns-in_default-clause-finished
returns-in_default-clause-finished g c = λ is.
    let parts = c.self.inside.parts in
    rw (← c.self.view_is) (over (g.P.Problem.machine c.self.inside.problem.now).root parts.tables.contexts parts.tables.callers parts.tables.exits parts.edges.held parts.marks.items c.self.inside.commits c.self.inside.lag c.self.inside.period c.self.inside.max_edges parts.queue.items c.work_at.new.queue.items parts.flights.items c.args.place c.self.inside.takes c.out_of.result (rw (← c.self.view_is) at c.requires.place) c.in_default.ensures.beyond c.in_default.ensures.stays (c.waiting.ensures.finished is) (c.out_of.ensures ∙ ap in_hand c.as_slice.ensures.value))

pub returns-in_default-clause-sound : goal.returns-in_default-clause-sound
returns-in_default-clause-sound g c =
    let machine = g.P.Problem.machine c.self.inside.problem.now in
    let parts = c.self.inside.parts in
    subst (IsRight machine (g.P.Problem.reaches c.self.inside.problem.now)) (sym (still machine.root parts.tables.contexts parts.tables.callers parts.tables.exits parts.edges.held parts.marks.items c.self.inside.commits c.self.inside.lag c.self.inside.period c.self.inside.max_edges parts.queue.items c.work_at.new.queue.items parts.flights.items c.self.inside.takes c.in_default.ensures.stays)) c.self.invariant.2

pub invariant_of-self-2 : goal.invariant_of-self-2
invariant_of-self-2 g c =
    let machine = g.P.Problem.machine c.self.inside.problem.now in
    let parts = c.self.inside.parts in
    let idle = rw (← c.self.view_is) at c.requires.idle in
    let was = idle_work machine.root parts.tables.contexts parts.flights.items c.args.w idle in
    let takes = sent machine.root parts.tables.contexts parts.tables.callers parts.tables.exits parts.edges.held parts.marks.items c.self.inside.commits c.self.inside.lag c.self.inside.period c.self.inside.max_edges parts.queue.items c.work_at.new.queue.items parts.flights.items c.hand_out.new.flights.items c.in-Some.work c.args.w c.args.place c.self.inside.takes c.saturating_add-self-inside.result c.in-Some.ensures.there c.in-Some.ensures.left c.hand_out.ensures.items c.saturating_add-self-inside.ensures idle in (
      c.self.invariant.0,
      (
        sent_fit parts.tables.contexts parts.tables.callers parts.tables.exits parts.edges.held parts.queue.items c.work_at.new.queue.items parts.flights.items c.hand_out.new.flights.items c.in-Some.work c.args.w c.args.place c.in-Some.ensures.there c.in-Some.ensures.left c.hand_out.ensures.items was.0 c.self.invariant.1.0,
        omega (arith, c.self.invariant.1.1, c.in-Some.ensures.less, c.work_at.ensures.room, c.hand_out.ensures.out),
      ),
      take_right machine (g.P.Problem.reaches c.self.inside.problem.now) _ _ c.self.invariant.2 c.args.w c.args.place takes,
      c.self.invariant.3,
    )

pub returns-clause-took : goal.returns-clause-took
returns-clause-took g c =
    let machine = g.P.Problem.machine c.self.inside.problem.now in
    let parts = c.self.inside.parts in
    let idle = rw (← c.self.view_is) at c.requires.idle in
    let takes = sent machine.root parts.tables.contexts parts.tables.callers parts.tables.exits parts.edges.held parts.marks.items c.self.inside.commits c.self.inside.lag c.self.inside.period c.self.inside.max_edges parts.queue.items c.work_at.new.queue.items parts.flights.items c.hand_out.new.flights.items c.in-Some.work c.args.w c.args.place c.self.inside.takes c.saturating_add-self-inside.result c.in-Some.ensures.there c.in-Some.ensures.left c.hand_out.ensures.items c.saturating_add-self-inside.ensures idle in
    rw (← c.self.view_is) (took c.args.w c.args.place _ _ c.named.result c.saturating_add-self-inside.result takes (named_there machine.root parts.tables.contexts parts.tables.callers parts.tables.exits parts.edges.held parts.marks.items c.self.inside.commits c.self.inside.lag c.self.inside.period c.self.inside.max_edges parts.queue.items c.in-Some.work c.args.place c.named.result c.in-Some.ensures.there (c.named.ensures machine.root)) refl)

pub returns-clause-sound : goal.returns-clause-sound
returns-clause-sound g c =
    let machine = g.P.Problem.machine c.self.inside.problem.now in
    let parts = c.self.inside.parts in
    let takes = sent machine.root parts.tables.contexts parts.tables.callers parts.tables.exits parts.edges.held parts.marks.items c.self.inside.commits c.self.inside.lag c.self.inside.period c.self.inside.max_edges parts.queue.items c.work_at.new.queue.items parts.flights.items c.hand_out.new.flights.items c.in-Some.work c.args.w c.args.place c.self.inside.takes c.saturating_add-self-inside.result c.in-Some.ensures.there c.in-Some.ensures.left c.hand_out.ensures.items c.saturating_add-self-inside.ensures (rw (← c.self.view_is) at c.requires.idle) in
    take_right machine (g.P.Problem.reaches c.self.inside.problem.now) _ _ c.self.invariant.2 c.args.w c.args.place takes
