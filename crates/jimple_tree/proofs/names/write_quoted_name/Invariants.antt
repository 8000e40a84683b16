use Rattle.std.proofs.Common.{◌≡◌, ◌++◌, length}
use Rattle.jimple_tree.specs.Names.{quoted_name}
use Rattle.jimple_tree.proofs.names.write_quoted_name.Given as goal

abbrev pub invariant-loop-dot : goal.invariant-loop-dot
invariant-loop-dot l = l.out.items ++ quoted_name l.rest ≡ l.fn.out.items ++ quoted_name l.fn.name

abbrev pub decreases-loop-dot : goal.decreases-loop-dot
decreases-loop-dot l = length l.rest
