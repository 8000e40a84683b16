use Rattle.std.proofs.Common.{◌≡◌, take, map}
use Rattle.jimple_tree.specs.Labels.{marked}
use Rattle.jimple_tree.specs.declared.tree.Case.{Case}
use Rattle.jimple_tree.proofs.labels.mark_cases.Given as goal

abbrev pub invariant-loop-case : goal.invariant-loop-case
invariant-loop-case l = l.marks ≡ marked (map (λ (c : Case). c.target) (take l.case-index l.cases)) l.fn.marks
