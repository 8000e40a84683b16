use Rattle.std.proofs.Common.{◌≡◌, ◌++◌, take, codes}
use Rattle.std.specs.List.{flat_map}
use Rattle.jimple_tree.specs.Operands.{type_text}
use Rattle.jimple_tree.proofs.operand.write_more_types.Given as goal

abbrev pub invariant-loop-ty : goal.invariant-loop-ty
invariant-loop-ty l = l.out.items ≡ l.fn.out.items ++ flat_map (λ t. codes "," ++ type_text t) (take l.ty-index l.types)
