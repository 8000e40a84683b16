use Rattle.std.proofs.Common.{take}
use Rattle.taint_problem.specs.Moves.{LeadsFrom}
use Rattle.taint_problem.proofs.crossing.leads_from.Given as goal

abbrev pub invariant-loop-m : goal.invariant-loop-m
invariant-loop-m l = LeadsFrom l.program.code (take l.m-index l.from) l.to → ⊥
