use Rattle.std.proofs.Common.{◌⊎◌}
use Rattle.access_path.specs.declared.fact.Fact.TheVariants.{Taint as Tainted}
use Rattle.access_path.specs.declared.fact.Taint.{Taint}
use Rattle.flow_rules.specs.Backward.{ComesFrom, Remains, Under}
use Rattle.flow_rules.specs.Only.{IsIn}
use Rattle.clean_base.proofs.Appended.{appends_both_if}
use Rattle.flow_rules.proofs.Lifted.{of_two}
use Rattle.alias_flow.proofs.backward.under.Goals as goal

pub returns : goal.returns
returns c =
    let k = c.args.k in
    let view = c.args.view.now in
    let t = c.in-Taint.t in
    rw c.in-Taint.is (appends_both_if c.add-2.result (IsIn c.comes_from.result) (IsIn c.remains.result) (Under k view (Tainted t)) _ _ _
    (of_two (λ (a : Taint) (u : Taint). ComesFrom k view a u ⊎ Remains view a u) t (ComesFrom k view t) (Remains view t) c.comes_from.result c.remains.result c.comes_from.ensures c.remains.ensures (λ u. ((λ is. is), (λ is. is))))
    c.in_ok-add.ensures c.add-2.ensures)
