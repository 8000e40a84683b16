use Rattle.std.proofs.Common.{◌≡◌, ◌⊎◌}
use Rattle.flow_rules.specs.Border.{Passes}
use Rattle.flow_rules.specs.Forward.{Over}
use Rattle.flow_rules.specs.Locals.{IsThrown}
use Rattle.clean_base.proofs.Appended.{appends_same_if}
use Rattle.taint_problem.specs.Moves.{AfterCrossed}
use Rattle.taint_problem.proofs.Calling.{past_open, over_plain}
use Rattle.taint_problem.proofs.facts.add_after.Goals as goal

pub returns-in-Some : goal.returns-in-Some
returns-in-Some c =
    let view = c.args.view.now in
    let fact = c.args.fact.now in
    let crossed = c.args.crossed.now in
    let call = c.in-Some.call.now in
    appends_same_if c.add_past.result (λ g. Passes call crossed g ⊎ (IsThrown fact × (g ≡ fact))) (AfterCrossed c.args.k view c.args.s fact crossed) _ _
    (past_open c.args.k view c.args.s fact crossed call c.in-Some.ensures.some) c.add_past.ensures

pub returns-in-None : goal.returns-in-None
returns-in-None c =
    let view = c.args.view.now in
    let fact = c.args.fact.now in
    let crossed = c.args.crossed.now in
    appends_same_if c.over.result (Over c.args.k view c.args.s crossed) (AfterCrossed c.args.k view c.args.s fact crossed) _ _
    (over_plain c.args.k view c.args.s fact crossed c.in-None.ensures.none) c.over.ensures
