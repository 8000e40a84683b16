use Rattle.std.proofs.Common.{sym, ◌∙◌, ap, subst, inl, inr, ◌≤◌, Some}
use Rattle.ifds_model.proofs.Members.{at_one}
use Rattle.ifds_model.specs.Events.{GivesBack}
use Rattle.solver_core.specs.Seen.{IsRight}
use Rattle.solver_core.proofs.Counted.{commits_within}
use Rattle.solver_core.proofs.state.State.commit.Goals.{then-has_flight, else-has_flight}
use Rattle.solver_core.proofs.state.State.commit.Goals as goal

pub returns-clause-committed : goal.returns-clause-committed
returns-clause-committed g c = (
  λ flies. c.holds.ensures.no c.if-holds.false (at_one c.args.self.now.view.flights c.args.w c.flight.result (Some c.args.outcome.item) c.flight.ensures.flies flies ∙ ap (λ item. Some item) (sym c.item.ensures)),
  elim c.if-has_flight.branch [
    | then-has_flight w ↦ inl (subst (λ s. GivesBack c.args.w c.args.self.now.view s.view) (sym w.self-is) w.give_back.ensures.event)
    | else-has_flight w ↦ inr (c.has_flight.ensures.idle.0 w.if-has_flight.false, ap (λ s. s.view) w.self-is)
  ],
)

pub returns-clause-sound : goal.returns-clause-sound
returns-clause-sound g c = elim c.if-has_flight.branch [
  | then-has_flight w ↦ subst (λ s. IsRight (g.P.Problem.machine s.problem) (g.P.Problem.reaches s.problem) s.view) (sym w.self-is) w.give_back.ensures.sound
  | else-has_flight w ↦ subst (λ s. IsRight (g.P.Problem.machine s.problem) (g.P.Problem.reaches s.problem) s.view) (sym w.self-is) c.flight.ensures.sound
]

pub returns-clause-within : goal.returns-clause-within
returns-clause-within g c = elim c.if-has_flight.branch [
  | then-has_flight w ↦ subst (λ s. s.view.commits ≤ s.view.max_edges) (sym w.self-is) (commits_within (g.P.Problem.machine _) _ w.give_back.ensures.sound.sound)
  | else-has_flight w ↦ subst (λ s. s.view.commits ≤ s.view.max_edges) (sym w.self-is) (commits_within (g.P.Problem.machine _) _ c.flight.ensures.sound.sound)
]
