use Rattle.std.proofs.Common.{◌≡◌, ◌++◌, map, take}
use Rattle.jimple_tree.specs.declared.tree.Case.{Case}
use Rattle.statement_graph.proofs.successors.add_cases.Given as goal

abbrev pub invariant-loop-case : goal.invariant-loop-case
invariant-loop-case l = l.places ≡ l.fn.places ++ map (λ (c : Case). c.target) (take l.case-index l.cases)
