use Rattle.std.proofs.Common.{rules, ◌≡◌, ◌∷◌, ◌++◌, []}
use Rattle.access_path.specs.declared.fact.Fact.{Fact}
use Rattle.access_path.specs.declared.fact.Fact.TheVariants.{Zero}
use Rattle.flow_rules.specs.Forward.{Over}
use Rattle.flow_rules.specs.Only.{IsIn}
use Rattle.clean_base.proofs.Appended.{appends_both_if, appends_one}
use Rattle.forward_flow.proofs.Parts.{zero_splits}
use Rattle.forward_flow.proofs.after.over_zero.Goals as goal

pub returns : goal.returns
returns c =
    let k = c.args.k in
    let view = c.args.view.now in
    let at = c.args.at in
    appends_both_if c.add.result (λ (g : Fact). g ≡ Zero) (IsIn c.from_source.result) (Over k view at Zero) c.args.out.now.items (c.args.out.now.items ++ Zero ∷ []) _
    (zero_splits k view at c.from_source.result c.from_source.ensures) (appends_one (λ (g : Fact). g ≡ Zero) _ _ Zero (λ x. ((λ e. e), (λ e. e))) (search rules)) (search rules)
