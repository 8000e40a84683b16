use Rattle.std.proofs.Common.{◌≡◌, ◌++◌, take}
use Rattle.std.specs.List.{flat_map}
use Rattle.jimple_tree.specs.Statements.{catch_line}
use Rattle.jimple_tree.proofs.write.write_catches.Given as goal

abbrev pub invariant-loop-catch : goal.invariant-loop-catch
invariant-loop-catch l = l.out.items ≡ l.fn.out.items ++ flat_map (catch_line l.body) (take l.catch-index l.catches)
