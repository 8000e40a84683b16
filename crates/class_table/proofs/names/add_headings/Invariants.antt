use Rattle.std.proofs.Common.{◌≡◌, nat_eq, flat_map, take}
use lib.Pointwise.{pointwise}
use Rattle.indexmap.specs.IndexSet.{insert_all}
use Rattle.class_table.specs.Hierarchy.{heading}
use Rattle.class_table.proofs.names.add_headings.Given as goal

abbrev pub invariant-loop-class : goal.invariant-loop-class
invariant-loop-class l = l.names.keys ≡ insert_all (pointwise nat_eq) l.fn.names.keys (flat_map heading (take l.class-index l.classes))
