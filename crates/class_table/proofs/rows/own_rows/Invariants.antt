use Rattle.std.proofs.Common.{take}
use Rattle.class_table.specs.Kinds.{kind_names, AreOwnRows}
use Rattle.class_table.proofs.rows.own_rows.Given as goal

abbrev pub invariant-loop-class : goal.invariant-loop-class
invariant-loop-class l = AreOwnRows l.names.keys (kind_names l.kind) (take l.class-index l.classes) l.rows.items
