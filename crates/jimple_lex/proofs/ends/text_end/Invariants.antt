use Rattle.std.proofs.Common.{length, ◌-◌}
use Rattle.jimple_lex.proofs.Strings.{InString}
use Rattle.jimple_lex.proofs.ends.text_end.Given as goal

abbrev pub invariant-inside : goal.invariant-inside
invariant-inside l = InString l.bytes l.at l.to

abbrev pub decreases-inside : goal.decreases-inside
decreases-inside l = length l.bytes - l.to
