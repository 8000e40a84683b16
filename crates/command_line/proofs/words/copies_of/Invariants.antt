use Rattle.std.proofs.Common.{◌≡◌, map, take}
use Rattle.command_line.proofs.words.copies_of.Given as goal

abbrev pub invariant-loop-text : goal.invariant-loop-text
invariant-loop-text l = l.words.items ≡ map (λ s. s.now) (take l.text-index l.texts)
