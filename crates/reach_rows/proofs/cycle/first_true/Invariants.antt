use Rattle.std.proofs.Common.{◌<◌, ℕ, false}
use Rattle.clean_base.specs.Lists.{At}
use Rattle.reach_rows.proofs.cycle.first_true.Given as goal

abbrev pub invariant-loop-at : goal.invariant-loop-at
invariant-loop-at l = (k : ℕ) → k < l.at → At l.told k false
