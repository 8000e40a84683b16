use Rattle.taint_problem.specs.Whole.{whole_of}
use Rattle.taint_problem.proofs.problem.TaintProblemProblem.step.Goals as goal

pub add_steps-requires-clause-whole : goal.add_steps-requires-clause-whole
add_steps-requires-clause-whole c = whole_of c.args.self.now.program.now.code c.args.self.now.kept
