use Rattle.std.proofs.Common.{◌≡◌, take}
use Rattle.std.specs.List.{flat_map}
use Rattle.jimple_tree.specs.Labels.{marked, targets_of}
use Rattle.jimple_tree.proofs.labels.mark_stmts.Given as goal

abbrev pub invariant-loop-stmt : goal.invariant-loop-stmt
invariant-loop-stmt l = l.marks ≡ marked (flat_map targets_of (take l.stmt-index l.stmts)) l.fn.marks
