use Rattle.std.proofs.Common.{◌≡◌, ◌≤◌, ◌+◌, ◌++◌, length, drop, take, map}
use Rattle.jimple_names.specs.Scope.{stmts_of, labels_from}
use Rattle.jimple_names.specs.Tree.{stmt_of}
use Rattle.jimple_names.specs.Faults.{in_turn, item_fault}
use Rattle.jimple_names.specs.Resolving.{seen}
use Rattle.jimple_names.specs.Walking.{front_of}
use Rattle.jimple_names.proofs.bodies.later_stmts.Given as goal

abbrev pub invariant-loop-item : goal.invariant-loop-item
invariant-loop-item l = record {
  number : l.number ≡ length (labels_from l.resolver.bytes.now 0 (front_of l.code ++ take l.item-index l.code.rest));
  few : l.number ≤ length l.code.labels + l.item-index;
  fault : in_turn (item_fault l.resolver.bytes.now (seen l.resolver.names.locals.now l.resolver.names.labels.now l.resolver.count)) (front_of l.code) l.code.rest
      ≡ in_turn (item_fault l.resolver.bytes.now (seen l.resolver.names.locals.now l.resolver.names.labels.now l.resolver.count)) (front_of l.code ++ take l.item-index l.code.rest) (drop l.item-index l.code.rest);
  stmts : l.stmts.items ≡ l.fn.stmts.items ++ map (stmt_of l.resolver.bytes.now (seen l.resolver.names.locals.now l.resolver.names.labels.now l.resolver.count)) (stmts_of (take l.item-index l.code.rest));
}
