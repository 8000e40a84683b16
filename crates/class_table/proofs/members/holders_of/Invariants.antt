use Rattle.class_table.specs.Members.{AreHolders}
use Rattle.class_table.proofs.Holding.{methods_before}
use Rattle.class_table.proofs.members.holders_of.Given as goal

abbrev pub invariant-loop-at : goal.invariant-loop-at
invariant-loop-at l = AreHolders l.classes (methods_before l.classes l.at) l.holders
