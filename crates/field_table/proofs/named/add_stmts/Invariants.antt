use Rattle.std.proofs.Common.{◌≡◌, take}
use Rattle.indexmap.specs.IndexSet.{insert_all}
use Rattle.field_table.specs.Fields.{refs_in, same_sig}
use Rattle.field_table.specs.Numbers.{undeclared}
use Rattle.field_table.proofs.named.add_stmts.Given as goal

abbrev pub invariant-loop-stmt : goal.invariant-loop-stmt
invariant-loop-stmt l = l.named ≡ insert_all same_sig l.fn.named (undeclared l.table (refs_in (take l.stmt-index l.stmts)))
