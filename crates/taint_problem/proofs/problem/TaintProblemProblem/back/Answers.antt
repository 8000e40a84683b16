use Rattle.taint_problem.specs.Whole.{whole_of}
use Rattle.taint_problem.proofs.problem.TaintProblemProblem.back.Goals as goal

pub add_returns-requires : goal.add_returns-requires
add_returns-requires c = whole_of c.args.self.now.program.now.code c.args.self.now.kept
