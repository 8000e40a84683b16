use Rattle.std.proofs.Common.{◌∷◌, [], length}
use Rattle.jimple_tree.proofs.Numbers.{cases_fit}
use Rattle.jimple_tree.proofs.labels.mark_targets.Goals as goal

pub mark_cases-requires : goal.mark_cases-requires
mark_cases-requires c =
    rw c.as_slice.ensures (cases_fit (length c.args.marks.now) c.in-Switch.cases (c.in-Switch.default ∷ []) (rw c.in-Switch.is at c.requires))
