use Rattle.std.proofs.Common.{◌≡◌, map, take}
use Rattle.indexmap.specs.IndexSet.{insert_all}
use Rattle.field_table.specs.Fields.{field_sig, same_sig}
use Rattle.field_table.proofs.declared.add_fields.Given as goal

abbrev pub invariant-loop-field : goal.invariant-loop-field
invariant-loop-field l = l.sigs ≡ insert_all same_sig l.fn.sigs (map (field_sig l.class) (take l.field-index l.class.fields))
