use Rattle.std.proofs.Common.{◌≡◌, ℕ, ◌+◌, length, get_or, Some, None, arith, subst}
use Rattle.clean_base.specs.Lists.{AppendsSet}
use Rattle.access_path.specs.declared.fact.Fact.{Fact}
use Rattle.access_path.specs.declared.fact.Fact.TheVariants.{Taint as Tainted}
use Rattle.clean_base.proofs.Appended.{appends_both}
use Rattle.border_flow.specs.Parts.{EntersFirst}
use Rattle.border_flow.proofs.Params.{param_more}
use Rattle.border_flow.proofs.entry.add_params.Goals as goal

pub loop-i-preserved : goal.loop-i-preserved
loop-i-preserved c =
    let args = c.args.args.now in
    let n = c.loop-i.i in
    let t = c.args.t.now in
    let x = c.args.x in
    appends_both (EntersFirst args n t x) (λ (g : Fact). (get_or args n None ≡ Some x) × (g ≡ Tainted c.rebase.result)) (EntersFirst args (n + 1) t x) _ _ _
    (param_more args n t x None c.rebase.result (omega arith) c.rebase.ensures) c.loop-i.invariant c.in_ok-add_param.ensures

pub returns : goal.returns
returns c =
    let all : c.loop-i.i ≡ length c.args.args.now = omega arith in
    subst (λ (n : ℕ). AppendsSet (EntersFirst c.args.args.now n c.args.t.now c.args.x) c.args.out.now.items c.loop-i.out.items) all c.loop-i.invariant
