use Rattle.std.proofs.Common.{ℕ, ◌<◌, List, map, slice_index_or}
use Rattle.command_line.specs.Words.{IsGiven}
use Rattle.command_line.proofs.words.are_given.Given as goal

abbrev pub invariant-loop-text : goal.invariant-loop-text
invariant-loop-text l = (k : ℕ) (d : List ℕ) → k < l.text-index → IsGiven (slice_index_or (map (λ s. s.now) l.texts) k d)
