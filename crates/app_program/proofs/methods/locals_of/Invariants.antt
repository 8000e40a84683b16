use Rattle.app_program.proofs.Counting.{AreCounted}
use Rattle.app_program.proofs.methods.locals_of.Given as goal

abbrev pub invariant-loop-m : goal.invariant-loop-m
invariant-loop-m l = AreCounted l.table l.m l.locals.items
