use Rattle.std.proofs.Common.{◌≡◌, ◌++◌, take}
use Rattle.std.specs.List.{flat_map}
use Rattle.jimple_tree.specs.Statements.{case_line}
use Rattle.jimple_tree.proofs.statement.write_cases.Given as goal

abbrev pub invariant-loop-case : goal.invariant-loop-case
invariant-loop-case l = l.out.items ≡ l.fn.out.items ++ flat_map (case_line l.body) (take l.case-index l.cases)
