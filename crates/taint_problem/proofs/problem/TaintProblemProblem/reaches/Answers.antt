use Rattle.taint_problem.specs.Whole.{whole_of}
use Rattle.taint_problem.proofs.problem.TaintProblemProblem.reaches.Goals as goal

pub leads-requires : goal.leads-requires
leads-requires c = whole_of c.args.self.now.program.now.code c.args.self.now.kept
