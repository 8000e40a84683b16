use Rattle.std.proofs.Common.{◌≡◌, [], ◌++◌, drop, take}
use Rattle.jimple_names.specs.Faults.{in_turn, declared_fault}
use Rattle.jimple_names.proofs.bodies.check_locals.Given as goal

abbrev pub invariant-loop-number : goal.invariant-loop-number
invariant-loop-number l = in_turn (declared_fault l.resolver.bytes.now) [] l.tokens ≡ in_turn (declared_fault l.resolver.bytes.now) ([] ++ take l.number l.tokens) (drop l.number l.tokens)
