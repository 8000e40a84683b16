use Rattle.std.proofs.Common.{◌≡◌, [], drop, take}
use Rattle.jimple_names.specs.Faults.{in_turn}
use Rattle.jimple_names.specs.Resolving.{seen}
use Rattle.jimple_names.proofs.Walks.{label_fault}
use Rattle.jimple_names.proofs.bodies.check_labels.Given as goal

abbrev pub invariant-loop-number : goal.invariant-loop-number
invariant-loop-number l = in_turn (label_fault l.resolver.bytes.now (seen l.resolver.names.locals.now l.resolver.names.labels.now l.resolver.count)) [] l.code.labels
    ≡ in_turn (label_fault l.resolver.bytes.now (seen l.resolver.names.locals.now l.resolver.names.labels.now l.resolver.count)) (take l.number l.code.labels) (drop l.number l.code.labels)
