use Rattle.std.proofs.Common.{◌≡◌, ◌<◌, ℕ, Some, map, slice_index_or}
use Rattle.clap.specs.Walk.{first_of}
use Rattle.command_line.specs.Words.{IsGiven, Text}
use Rattle.command_line.specs.Written.{rows_in}
use Rattle.command_line.proofs.matches.has_given_values.Given as goal

abbrev pub invariant-loop-option : goal.invariant-loop-option
invariant-loop-option l = (k : ℕ) (d : Text) → k < l.option-index → (v : Text) → first_of (slice_index_or (map (λ s. s.now) l.options) k d) (rows_in l.line) ≡ Some v → IsGiven v
