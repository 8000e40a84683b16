use Rattle.std.proofs.Common.{◌≡◌, nat_eq, map, take}
use lib.Pointwise.{pointwise}
use Rattle.indexmap.specs.IndexSet.{insert_all}
use Rattle.jimple_tree.specs.declared.tree.Class.{Class}
use Rattle.class_table.proofs.names.add_own.Given as goal

abbrev pub invariant-loop-class : goal.invariant-loop-class
invariant-loop-class l = l.names.keys ≡ insert_all (pointwise nat_eq) l.fn.names.keys (map (λ (c : Class). c.name) (take l.class-index l.classes))
