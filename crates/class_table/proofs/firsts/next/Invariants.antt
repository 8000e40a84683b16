use Rattle.std.proofs.Common.{◌≡◌, map, take}
use Rattle.class_table.specs.Alongs.{taken}
use Rattle.class_table.proofs.firsts.next.Given as goal

abbrev pub invariant-loop-row : goal.invariant-loop-row
invariant-loop-row l = l.found.items ≡ map (taken l.places) (take l.row-index l.rows)
