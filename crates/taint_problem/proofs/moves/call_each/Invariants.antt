use Rattle.std.proofs.Common.{take}
use Rattle.clean_base.specs.Lists.{AppendsSet}
use Rattle.flow_rules.specs.Only.{OfEach}
use Rattle.taint_problem.specs.Moves.{Enters}
use Rattle.taint_problem.proofs.moves.call_each.Given as goal

abbrev pub invariant-loop-target : goal.invariant-loop-target
invariant-loop-target l = AppendsSet (OfEach (take l.target-index l.targets) (Enters l.s l.dir l.fact)) l.fn.out.items l.out.items
