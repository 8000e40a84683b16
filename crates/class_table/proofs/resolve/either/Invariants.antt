use Rattle.class_table.proofs.Along.{AreEitherTo}
use Rattle.class_table.proofs.resolve.either.Given as goal

abbrev pub invariant-loop-at : goal.invariant-loop-at
invariant-loop-at l = AreEitherTo l.fn.first.items l.others l.at l.places.items
