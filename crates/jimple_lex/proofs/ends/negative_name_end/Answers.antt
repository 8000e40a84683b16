use Rattle.std.proofs.Common.{ap}
use Rattle.jimple_words.specs.Bytes.{is_letter}
use Rattle.jimple_lex.proofs.Places.{tested}
use Rattle.jimple_lex.proofs.Numbers.{named_negative_there, no_number, no_name_number}
use Rattle.jimple_lex.proofs.ends.negative_name_end.Goals as goal

pub returns-then-is_letter : goal.returns-then-is_letter
returns-then-is_letter c = named_negative_there c.args.bytes.now c.args.at c.letters_end.result c.requires.within c.requires.front c.requires.next
    (tested is_letter _ c.byte_at-third.ensures c.is_letter.ensures c.if-is_letter.true) c.letters_end.ensures

pub returns-else-is_letter : goal.returns-else-is_letter
returns-else-is_letter c = no_number c.args.bytes.now c.args.at c.requires.within
    (no_name_number _ _ _ c.requires.front (ap is_letter c.requires.next) (λ _. tested is_letter _ c.byte_at-third.ensures c.is_letter.ensures c.if-is_letter.false))
