use Rattle.std.proofs.Common.{◌≡◌, map, take, drop}
use Rattle.jimple_names.specs.Tree.{class_of}
use Rattle.jimple_names.specs.Faults.{first, class_fault}
use Rattle.jimple_names.proofs.classes.classes_of.Given as goal

abbrev pub invariant-loop-next : goal.invariant-loop-next
invariant-loop-next l = record {
  fault : first (class_fault l.bytes) l.raw ≡ first (class_fault l.bytes) (drop l.next-index l.raw);
  classes : l.classes.items ≡ map (class_of l.bytes) (take l.next-index l.raw);
}
