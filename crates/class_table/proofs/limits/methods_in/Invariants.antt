use Rattle.std.proofs.Common.{◌≡◌, ◌-◌, ◌^◌, length, min, take}
use Rattle.class_table.specs.Methods.{all_methods}
use Rattle.class_table.proofs.limits.methods_in.Given as goal

abbrev pub invariant-loop-class : goal.invariant-loop-class
invariant-loop-class l = l.total ≡ min (length (all_methods (take l.class-index l.classes))) (2 ^ 64 - 1)
