use Rattle.class_table.proofs.Along.{IsPassed}
use Rattle.class_table.proofs.firsts.along.Given as goal

abbrev pub invariant-loop-node : goal.invariant-loop-node
invariant-loop-node l = IsPassed l.rows l.order l.places l.node-index l.found.items
