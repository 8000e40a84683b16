use Rattle.std.proofs.Common.{true, ℕ, take}
use Rattle.std.specs.Prelude.{Contains}
use Rattle.clean_base.specs.Lists.{At}
use Rattle.class_table.proofs.marks.any_marked.Given as goal

abbrev pub invariant-loop-node : goal.invariant-loop-node
invariant-loop-node l = (a : ℕ) → Contains (take l.node-index l.nodes) a → At l.marks a true → ⊥
