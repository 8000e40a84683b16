use Rattle.std.proofs.Common.{true, ℕ, take}
use Rattle.std.specs.Prelude.{Contains}
use Rattle.clean_base.specs.Lists.{At}
use Rattle.reach_rows.proofs.cycle.Flood.sees_any.Given as goal

abbrev pub invariant-loop-node : goal.invariant-loop-node
invariant-loop-node l = (b : ℕ) → Contains (take l.node-index l.nodes) b → At l.self.seen.items b true → ⊥
