use Rattle.std.proofs.Common.{◌≡◌, ◌++◌, take}
use Rattle.std.specs.List.{flat_map}
use Rattle.jimple_tree.specs.Statements.{local_line}
use Rattle.jimple_tree.proofs.write.write_locals.Given as goal

abbrev pub invariant-loop-local : goal.invariant-loop-local
invariant-loop-local l = l.out.items ≡ l.fn.out.items ++ flat_map local_line (take l.local-index l.locals)
