use Rattle.taint_problem.specs.Whole.{whole_of}
use Rattle.taint_problem.proofs.problem.TaintProblemProblem.method_of.Goals as goal

pub method_of-requires : goal.method_of-requires
method_of-requires c = whole_of c.args.self.now.program.now.code c.args.self.now.kept
