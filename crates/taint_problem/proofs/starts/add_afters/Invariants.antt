use Rattle.std.proofs.Common.{◌≡◌, take}
use Rattle.clean_base.specs.Lists.{AppendsSet}
use Rattle.flow_rules.specs.Machine.{after}
use Rattle.flow_rules.specs.Only.{OfEach}
use Rattle.taint_problem.proofs.starts.add_afters.Given as goal

abbrev pub invariant-loop-stmt : goal.invariant-loop-stmt
invariant-loop-stmt l = AppendsSet (OfEach (take l.stmt-index l.stmts) (λ s n. n ≡ after s)) l.fn.out.items l.out.items
