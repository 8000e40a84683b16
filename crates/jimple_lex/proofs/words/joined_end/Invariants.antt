use Rattle.std.proofs.Common.{length, ◌-◌}
use Rattle.jimple_lex.proofs.Segments.{Joining}
use Rattle.jimple_lex.proofs.words.joined_end.Given as goal

abbrev pub invariant-dots : goal.invariant-dots
invariant-dots l = Joining l.bytes l.at l.to

abbrev pub decreases-dots : goal.decreases-dots
decreases-dots l = length l.bytes - l.to
