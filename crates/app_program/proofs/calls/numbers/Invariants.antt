use Rattle.std.proofs.Common.{◌≡◌, map, take}
use Rattle.clean_base.specs.declared.ids.MethodId.{MethodId}
use Rattle.app_program.proofs.calls.numbers.Given as goal

abbrev pub invariant-loop-method : goal.invariant-loop-method
invariant-loop-method l = l.numbers.items ≡ map (λ (n : MethodId). n.0) (take l.method-index l.methods)
