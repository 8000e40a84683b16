use Rattle.std.proofs.Common.{◌≡◌, ◌++◌}
use Rattle.jimple_tree.specs.Operands.{brackets}
use Rattle.jimple_tree.proofs.operand.write_brackets.Given as goal

abbrev pub invariant-loop : goal.invariant-loop
invariant-loop l = l.out.items ≡ l.fn.out.items ++ brackets l.counter
