use Rattle.flow_rules.specs.Only.{OfEach}
use Rattle.clean_base.proofs.Appended.{appends_same_if}
use Rattle.taint_problem.specs.Moves.{Enters, CallsEach}
use Rattle.taint_problem.proofs.moves.call.Goals as goal

pub returns : goal.returns
returns c =
    let into = Enters c.args.s c.args.dir c.args.fact.now in
    appends_same_if c.call_each.result (OfEach c.targets_of.result.now into) (CallsEach c.args.program.now.code c.args.s c.args.dir c.args.fact.now) _ _
    (λ m. let are = c.targets_of.ensures.are in ((λ is. (is.0, (are is.0).1 is.1, is.2)), (λ is. (is.0, (are is.0).0 is.1, is.2)))) c.call_each.ensures
