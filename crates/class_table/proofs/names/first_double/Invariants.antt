use Rattle.std.proofs.Common.{take}
use Rattle.class_table.specs.Faults.{HaveNames}
use Rattle.class_table.proofs.names.first_double.Given as goal

abbrev pub invariant-loop-place : goal.invariant-loop-place
invariant-loop-place l = HaveNames (take l.place l.classes)
