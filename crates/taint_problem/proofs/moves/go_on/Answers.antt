use Rattle.flow_rules.specs.Only.{OfEach}
use Rattle.clean_base.proofs.Appended.{appends_same_if}
use Rattle.taint_problem.specs.Moves.{GoesTo, GoesOn}
use Rattle.taint_problem.proofs.moves.go_on.Goals as goal

pub returns : goal.returns
returns c =
    let code = c.args.program.now.code in
    let dir = c.args.dir in
    let to = GoesTo code dir c.args.fact.now in
    appends_same_if c.go_each.result (OfEach c.near.result.now to) (GoesOn code dir c.args.s c.args.fact.now) _ _
    (λ m. let are = c.near.ensures.are in ((λ is. (is.0, (are is.0).1 is.1, is.2)), (λ is. (is.0, (are is.0).0 is.1, is.2)))) c.go_each.ensures
