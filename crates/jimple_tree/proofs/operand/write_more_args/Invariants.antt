use Rattle.std.proofs.Common.{◌≡◌, ◌++◌, take, codes}
use Rattle.std.specs.List.{flat_map}
use Rattle.jimple_tree.specs.Operands.{imm_text}
use Rattle.jimple_tree.proofs.operand.write_more_args.Given as goal

abbrev pub invariant-loop-arg : goal.invariant-loop-arg
invariant-loop-arg l = l.out.items ≡ l.fn.out.items ++ flat_map (λ a. codes ", " ++ imm_text l.body a) (take l.arg-index l.args)
