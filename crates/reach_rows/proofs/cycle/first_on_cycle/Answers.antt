use Rattle.std.proofs.Common.{Bool, false, List, sym, subst}
use Rattle.reach_rows.specs.Cycles.{AreTold}
use Rattle.reach_rows.proofs.Taken.{first_told, none_told}
use Rattle.reach_rows.proofs.cycle.first_on_cycle.Goals as goal

pub returns-in-Some : goal.returns-in-Some
returns-in-Some c =
    let tells = subst (λ (ts : List Bool). AreTold c.args.rows.now ts) (sym c.as_slice.ensures.value) c.in_ok-told.ensures in
    first_told c.args.rows.now c.as_slice.result.now c.in-Some.node tells c.in-Some.ensures.0 c.in-Some.ensures.1

pub returns : goal.returns
returns c =
    let tells = subst (λ (ts : List Bool). AreTold c.args.rows.now ts) (sym c.as_slice.ensures.value) c.in_ok-told.ensures in
    none_told c.args.rows.now c.as_slice.result.now tells (λ k below. (below, c.in-None.ensures k false below))
