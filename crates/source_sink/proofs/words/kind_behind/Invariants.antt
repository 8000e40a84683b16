use Rattle.std.proofs.Common.{◌↔◌, Bool, length}
use Rattle.source_sink.specs.Lists.{IsMarked}
use Rattle.source_sink.proofs.words.kind_behind.Given as goal

-- what is left is marked as the text is
abbrev pub invariant-words : goal.invariant-words
invariant-words l = (source sink : Bool) → IsMarked source sink l.left ↔ IsMarked source sink l.fn.text

abbrev pub decreases-words : goal.decreases-words
decreases-words l = length l.left
