use Rattle.std.proofs.Common.{◌≡◌, take, []}
use Rattle.indexmap.specs.IndexSet.{insert_all}
use Rattle.class_table.specs.Methods.{stmts_in}
use Rattle.field_table.specs.Fields.{refs_in, same_sig}
use Rattle.field_table.specs.Numbers.{undeclared}
use Rattle.field_table.proofs.named.named_in.Given as goal

abbrev pub invariant-loop-class : goal.invariant-loop-class
invariant-loop-class l = l.named ≡ insert_all same_sig [] (undeclared l.table (refs_in (stmts_in (take l.class-index l.table))))
