use Rattle.std.proofs.Common.{take}
use Rattle.clean_base.specs.Lists.{AppendsSet}
use Rattle.flow_rules.specs.Only.{OfEach}
use Rattle.taint_problem.specs.Moves.{CallsEach}
use Rattle.taint_problem.proofs.moves.all_call.Given as goal

abbrev pub invariant-loop-fact : goal.invariant-loop-fact
invariant-loop-fact l = AppendsSet (OfEach (take l.fact-index l.facts) (CallsEach l.program.code l.s l.dir)) l.fn.out.items l.out.items
