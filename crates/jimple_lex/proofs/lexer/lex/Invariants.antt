use Rattle.std.proofs.Common.{length, ◌-◌}
use Rattle.jimple_lex.proofs.Reading.{Read}
use Rattle.jimple_lex.proofs.lexer.lex.Given as goal

abbrev pub invariant-pieces : goal.invariant-pieces
invariant-pieces l = Read l.bytes l.at l.out.items

abbrev pub decreases-pieces : goal.decreases-pieces
decreases-pieces l = length l.bytes - l.at
