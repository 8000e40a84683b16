use Rattle.std.proofs.Common.{◌≡◌, ◌⊎◌}
use Rattle.flow_rules.specs.Border.{Passes}
use Rattle.flow_rules.specs.Locals.{IsThrown}
use Rattle.clean_base.proofs.Appended.{appends_both_if}
use Rattle.taint_problem.proofs.facts.add_past.Goals as goal

pub returns : goal.returns
returns c =
    let passes = Passes c.args.call.now c.args.crossed.now in
    let fact = c.args.fact.now in
    appends_both_if c.add_thrown.result passes (λ g. IsThrown fact × (g ≡ fact)) (λ g. passes g ⊎ (IsThrown fact × (g ≡ fact))) _ _ _ (λ g. ((λ e. e), (λ e. e))) c.in_ok-past_call.ensures c.add_thrown.ensures
