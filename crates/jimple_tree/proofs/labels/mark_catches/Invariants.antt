use Rattle.std.proofs.Common.{◌≡◌, take}
use Rattle.std.specs.List.{flat_map}
use Rattle.jimple_tree.specs.Labels.{marked, catch_places}
use Rattle.jimple_tree.proofs.labels.mark_catches.Given as goal

abbrev pub invariant-loop-catch : goal.invariant-loop-catch
invariant-loop-catch l = l.marks ≡ marked (flat_map catch_places (take l.catch-index l.catches)) l.fn.marks
