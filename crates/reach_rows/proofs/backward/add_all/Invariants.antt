use Rattle.reach_rows.proofs.Backwards.{AreBackFrom}
use Rattle.reach_rows.proofs.backward.add_all.Given as goal

abbrev pub invariant-loop-node : goal.invariant-loop-node
invariant-loop-node l = AreBackFrom l.rows l.node l.backs
