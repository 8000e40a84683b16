use Rattle.std.proofs.Common.{◌≡◌, ◌<◌, ℕ, List, get_or}
use Rattle.std.specs.Prelude.{codes}
use Rattle.class_table.proofs.modifiers.is_abstract.Given as goal

abbrev pub invariant-loop-modifier : goal.invariant-loop-modifier
invariant-loop-modifier l = (k : ℕ) (d : List ℕ) → k < l.modifier-index → get_or l.modifiers k d ≡ codes "abstract" → ⊥
