use Rattle.std.proofs.Common.{◌≡◌, ◌++◌, take}
use Rattle.class_table.specs.Kinds.{names_at, AreWithin}
use Rattle.class_table.proofs.rows.add_numbers.Given as goal

abbrev pub invariant-loop-name : goal.invariant-loop-name
invariant-loop-name l = record {
  names : names_at l.names.keys l.row.items ≡ names_at l.names.keys l.fn.row.items ++ take l.name-index l.some;
  within : AreWithin l.names.keys l.row.items;
}
