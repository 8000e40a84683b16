use Rattle.std.proofs.Common.{length, take}
use Rattle.class_table.specs.Members.{AreOwn, ArePlaces}
use Rattle.class_table.specs.Methods.{all_methods}
use Rattle.class_table.proofs.members.Members.new.Given as goal

abbrev pub invariant-loop-at : goal.invariant-loop-at
invariant-loop-at l = record {
  owns : AreOwn l.classes l.at l.owns.items;
  places : ArePlaces l.classes (length (all_methods (take l.at l.classes))) l.places.items;
}
