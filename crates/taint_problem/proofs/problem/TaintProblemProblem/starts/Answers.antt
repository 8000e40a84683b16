use Rattle.taint_problem.specs.Whole.{whole_of}
use Rattle.taint_problem.proofs.problem.TaintProblemProblem.starts.Goals as goal

pub add_starts-requires : goal.add_starts-requires
add_starts-requires c = whole_of c.args.self.now.program.now.code c.args.self.now.kept
