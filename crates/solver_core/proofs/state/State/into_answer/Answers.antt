use Rattle.std.proofs.Common.{sym, ◌∙◌, subst, refl, arith}
use Rattle.ifds_model.specs.Runs.{HasCount, IsEdge, IsContext}
use Rattle.solver_core.proofs.Answered.{edges_whole, commits_whole, marks_whole, contexts_whole}
use Rattle.solver_core.proofs.state.State.into_answer.Goals as goal

pub returns-clause-leaks : goal.returns-clause-leaks
returns-clause-leaks g c =
    let p = c.self.inside.problem.now in
    let over = rw (← c.self.view_is) at c.requires.over in
    rw (← c.self.view_is) (marks_whole (g.P.Problem.machine p) (g.P.Problem.method_of p) (g.P.Problem.reaches p) c.lawful.ensures _ c.self.invariant.2 over c.in_ok-marks.marks.items c.in_ok-marks.ensures.distinct c.in_ok-marks.ensures.same)

pub returns-clause-edges : goal.returns-clause-edges
returns-clause-edges g c =
    let p = c.self.inside.problem.now in
    let over = rw (← c.self.view_is) at c.requires.over in
    let whole = edges_whole (g.P.Problem.machine p) (g.P.Problem.method_of p) (g.P.Problem.reaches p) c.lawful.ensures _ c.self.invariant.2 over in
    rw (← c.self.view_is) (subst (HasCount (IsEdge (g.P.Problem.machine p))) (sym c.found-edges.ensures) whole)

pub returns-clause-contexts : goal.returns-clause-contexts
returns-clause-contexts g c =
    let p = c.self.inside.problem.now in
    let over = rw (← c.self.view_is) at c.requires.over in
    let whole = contexts_whole (g.P.Problem.machine p) (g.P.Problem.method_of p) (g.P.Problem.reaches p) c.lawful.ensures _ c.self.invariant.2 over c.self.inside.parts.tables.contexts c.self.invariant.1.0.distinct refl in
    rw (← c.self.view_is) (subst (HasCount (IsContext (g.P.Problem.machine p))) (sym c.contexts-contexts.ensures.count) whole)

pub returns-clause-commits : goal.returns-clause-commits
returns-clause-commits g c =
    let p = c.self.inside.problem.now in
    let over = rw (← c.self.view_is) at c.requires.over in
    commits_whole (g.P.Problem.machine p) (g.P.Problem.method_of p) (g.P.Problem.reaches p) c.lawful.ensures _ c.self.invariant.2 over ∙ sym c.found-edges.ensures

pub returns-clause-limit : goal.returns-clause-limit
returns-clause-limit g c = rw (← c.self.view_is) (omega (arith, c.found-edges.ensures, c.self.invariant.2.sound.counts.within))
