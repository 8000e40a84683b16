use Rattle.flow_rules.proofs.OwnRuns.{own_leak}
use Rattle.taint_problem.specs.Whole.{kept_of}
use Rattle.taint_problem.proofs.problem.TaintProblem.new.Goals as goal

pub invariant_of-result : goal.invariant_of-result
invariant_of-result c = record {
  enters = c.root.ensures.is;
  kept = kept_of c.args.program.now.code c.root.ensures.whole;
  some = c.requires.some;
  few = c.requires.few;
}

pub returns-clause-leaks : goal.returns-clause-leaks
returns-clause-leaks c = λ l leak. own_leak c.args.k c.args.program.now.code c.requires.some c.root.ensures.whole c.root.ensures.named l leak
