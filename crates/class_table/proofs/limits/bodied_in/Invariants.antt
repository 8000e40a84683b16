use Rattle.std.proofs.Common.{◌≡◌, ◌≤◌, length, take}
use Rattle.jimple_tree.specs.Bodies.{bodied}
use Rattle.class_table.proofs.limits.bodied_in.Given as goal

abbrev pub invariant-loop-method : goal.invariant-loop-method
invariant-loop-method l = record {
  count : l.count ≡ length (bodied (take l.method-index l.methods));
  few : l.count ≤ l.method-index;
}
