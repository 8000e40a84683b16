use Rattle.std.proofs.Common.{◌≡◌, ◌≤◌, ◌++◌, suc, length, take}
use Rattle.jimple_names.specs.Scope.{stmts_of, labels_from}
use Rattle.jimple_names.proofs.bodies.later_labels.Given as goal

abbrev pub invariant-loop-item : goal.invariant-loop-item
invariant-loop-item l = record {
  count : l.place ≡ suc (length (stmts_of (take l.item-index l.rest)));
  labels : l.labels.items ≡ l.fn.labels.items ++ labels_from l.bytes 1 (take l.item-index l.rest);
  few : l.place ≤ suc l.item-index;
}
