use Rattle.flow_rules.specs.Forward.{Triggers}
use Rattle.clean_base.proofs.Appended.{appends_same_if}
use Rattle.taint_problem.specs.Moves.{AskedCrossed}
use Rattle.taint_problem.proofs.facts.add_asked.Goals as goal

pub returns-in-None : goal.returns-in-None
returns-in-None c =
    appends_same_if c.triggers.result (Triggers c.args.k c.args.view.now c.args.s c.args.crossed.now) (AskedCrossed c.args.k c.args.view.now c.args.s c.args.crossed.now) _ _
    (λ g. ((λ is. is.1), (λ asked. (c.in-None.ensures.none, asked)))) c.triggers.ensures
