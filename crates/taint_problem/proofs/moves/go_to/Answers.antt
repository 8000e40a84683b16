use Rattle.clean_base.proofs.Appended.{appends_none}
use Rattle.taint_problem.specs.Moves.{GoesTo}
use Rattle.taint_problem.proofs.moves.go_to.Goals as goal

pub returns-else-may_go : goal.returns-else-may_go
returns-else-may_go c = appends_none (GoesTo c.args.program.now.code c.args.dir c.args.fact.now c.args.q) _ (λ m is. let may = c.may_go.ensures.1 is.0 in let may_not = c.if-may_go.false in cc)
