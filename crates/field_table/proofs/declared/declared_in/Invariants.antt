use Rattle.std.proofs.Common.{◌≡◌, take, []}
use Rattle.indexmap.specs.IndexSet.{insert_all}
use Rattle.field_table.specs.Fields.{declared_sigs, same_sig}
use Rattle.field_table.proofs.declared.declared_in.Given as goal

abbrev pub invariant-loop-class : goal.invariant-loop-class
invariant-loop-class l = l.sigs ≡ insert_all same_sig [] (declared_sigs (take l.class-index l.classes))
