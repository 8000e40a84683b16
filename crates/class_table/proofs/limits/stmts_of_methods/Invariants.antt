use Rattle.std.proofs.Common.{◌≡◌, ◌-◌, ◌^◌, length, min, take}
use Rattle.jimple_tree.specs.Bodies.{all_stmts}
use Rattle.class_table.proofs.limits.stmts_of_methods.Given as goal

abbrev pub invariant-loop-method : goal.invariant-loop-method
invariant-loop-method l = l.total ≡ min (length (all_stmts (take l.method-index l.methods))) (2 ^ 64 - 1)
