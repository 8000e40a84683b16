use Rattle.std.proofs.Common.{◌≡◌, take, None}
use Rattle.class_table.specs.Alongs.{taken}
use Rattle.class_table.proofs.firsts.first_of.Given as goal

abbrev pub invariant-loop-node : goal.invariant-loop-node
invariant-loop-node l = taken l.places (take l.node-index l.nodes) ≡ None
