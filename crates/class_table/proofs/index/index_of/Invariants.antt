use Rattle.std.proofs.Common.{map, take}
use Rattle.name_index.specs.Index.{IsIndex}
use Rattle.class_table.specs.Index.{name_of}
use Rattle.class_table.proofs.index.index_of.Given as goal

abbrev pub invariant-loop-place : goal.invariant-loop-place
invariant-loop-place l = IsIndex (take l.place (map name_of l.methods)) l.index
