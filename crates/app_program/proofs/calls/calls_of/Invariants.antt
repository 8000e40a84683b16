use Rattle.app_program.specs.Ends.{AreCalls}
use Rattle.app_program.proofs.calls.calls_of.Given as goal

abbrev pub invariant-loop-m : goal.invariant-loop-m
invariant-loop-m l = AreCalls l.graph l.targets l.m l.rows.items
