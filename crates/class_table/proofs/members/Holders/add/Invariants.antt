use Rattle.std.proofs.Common.{◌+◌}
use Rattle.class_table.specs.Members.{AreHolders}
use Rattle.class_table.proofs.Holding.{methods_before}
use Rattle.class_table.proofs.members.Holders.add.Given as goal

abbrev pub invariant-loop-method : goal.invariant-loop-method
invariant-loop-method l = AreHolders l.classes (methods_before l.classes l.at + l.method-index) l.self
