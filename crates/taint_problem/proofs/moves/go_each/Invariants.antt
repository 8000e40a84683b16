use Rattle.std.proofs.Common.{take}
use Rattle.clean_base.specs.Lists.{AppendsSet}
use Rattle.flow_rules.specs.Only.{OfEach}
use Rattle.taint_problem.specs.Moves.{GoesTo}
use Rattle.taint_problem.proofs.moves.go_each.Given as goal

abbrev pub invariant-loop-q : goal.invariant-loop-q
invariant-loop-q l = AppendsSet (OfEach (take l.q-index l.qs) (GoesTo l.program.code l.dir l.fact)) l.fn.out.items l.out.items
