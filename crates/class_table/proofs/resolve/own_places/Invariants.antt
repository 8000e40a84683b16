use Rattle.std.proofs.Common.{take}
use Rattle.class_table.proofs.Asked.{AreAsked}
use Rattle.class_table.proofs.resolve.own_places.Given as goal

abbrev pub invariant-loop-method : goal.invariant-loop-method
invariant-loop-method l = AreAsked l.classes l.sig l.members.holders.owners.items (take l.method-index l.method-items) l.places.items
