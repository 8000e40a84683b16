use Rattle.std.proofs.Common.{◌≡◌, ◌-◌, ◌^◌, length, min, take}
use Rattle.class_table.specs.Methods.{stmts_in}
use Rattle.class_table.proofs.limits.stmts_of_classes.Given as goal

abbrev pub invariant-loop-class : goal.invariant-loop-class
invariant-loop-class l = l.total ≡ min (length (stmts_in (take l.class-index l.classes))) (2 ^ 64 - 1)
