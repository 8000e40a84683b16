use Rattle.flat_rows.proofs.Walking.{IsWalk}
use Rattle.flat_rows.proofs.backwards.add_chain.Given as goal

abbrev pub invariant-loop-at : goal.invariant-loop-at
invariant-loop-at l = IsWalk l.links l.head l.fn.back l.at l.back

abbrev pub decreases-loop-at : goal.decreases-loop-at
decreases-loop-at l = l.at
