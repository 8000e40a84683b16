use Rattle.class_table.specs.Members.{ArePlaces}
use Rattle.class_table.proofs.Numbers.{AreNumbersBelow, before}
use Rattle.class_table.proofs.members.number_methods.Given as goal

abbrev pub invariant-loop-method : goal.invariant-loop-method
invariant-loop-method l = record {
  numbers : AreNumbersBelow l.classes l.class l.method l.numbers.items;
  places : ArePlaces l.classes (before l.classes l.at l.class l.method) l.places.items;
}
