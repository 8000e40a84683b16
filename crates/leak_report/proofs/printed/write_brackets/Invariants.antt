use Rattle.std.proofs.Common.{◌≡◌, ◌++◌}
use Rattle.jimple_tree.specs.Printed.{brackets}
use Rattle.leak_report.proofs.printed.write_brackets.Given as goal

abbrev pub invariant-loop-pair : goal.invariant-loop-pair
invariant-loop-pair l = l.out.items ≡ l.fn.out.items ++ brackets l._pair
