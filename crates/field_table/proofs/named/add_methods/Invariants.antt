use Rattle.std.proofs.Common.{◌≡◌, take}
use Rattle.indexmap.specs.IndexSet.{insert_all}
use Rattle.field_table.specs.Fields.{refs_in, same_sig}
use Rattle.field_table.specs.Numbers.{undeclared}
use Rattle.jimple_tree.specs.Bodies.{all_stmts}
use Rattle.field_table.proofs.named.add_methods.Given as goal

abbrev pub invariant-loop-method : goal.invariant-loop-method
invariant-loop-method l = l.named ≡ insert_all same_sig l.fn.named (undeclared l.table (refs_in (all_stmts (take l.method-index l.methods))))
