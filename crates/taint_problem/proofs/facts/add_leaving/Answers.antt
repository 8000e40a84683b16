use Rattle.std.proofs.Common.{◌≡◌}
use Rattle.access_path.specs.declared.view.View.TheVariants.{Call}
use Rattle.flow_rules.specs.Locals.{IsThrown}
use Rattle.clean_base.proofs.Appended.{appends_same_if}
use Rattle.taint_problem.specs.Moves.{Leaves}
use Rattle.taint_problem.proofs.facts.add_leaving.Goals as goal

pub returns-in-Call : goal.returns-in-Call
returns-in-Call c =
    let fact = c.args.fact.now in
    rw c.in-Call.is (appends_same_if c.add_thrown.result (λ g. IsThrown fact × (g ≡ fact)) (Leaves (Call c.in-Call.call) fact) _ _
    (λ g. ((λ is. (is.1, is.2)), (λ thrown. (c.if-call.true, thrown.0, thrown.1)))) c.add_thrown.ensures)
