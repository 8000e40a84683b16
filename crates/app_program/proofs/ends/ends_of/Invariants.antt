use Rattle.app_program.specs.Ends.{AreEnds, EndsSo}
use Rattle.app_program.proofs.ends.ends_of.Given as goal

abbrev pub invariant-loop-m : goal.invariant-loop-m
invariant-loop-m l = AreEnds l.graph l.views (EndsSo l.end) l.m l.rows
