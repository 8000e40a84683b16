use Rattle.flat_rows.proofs.Walking.{AreWalked}
use Rattle.flat_rows.proofs.backwards.converse.Given as goal

abbrev pub invariant-loop-node : goal.invariant-loop-node
invariant-loop-node l = AreWalked l.links l.heads l.node l.back
