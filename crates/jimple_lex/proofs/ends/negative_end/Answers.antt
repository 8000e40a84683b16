use Rattle.jimple_words.specs.Bytes.{is_digit}
use Rattle.jimple_lex.proofs.Places.{tested}
use Rattle.jimple_lex.proofs.Numbers.{negative_there, no_number, no_sign_number}
use Rattle.jimple_lex.proofs.ends.negative_end.Goals as goal

pub returns-then-is_digit : goal.returns-then-is_digit
returns-then-is_digit c = negative_there c.args.bytes.now c.args.at c.tail_end.result c.requires.within c.requires.front
    (tested is_digit _ c.byte_at-next.ensures c.is_digit.ensures c.if-is_digit.true) c.tail_end.ensures

pub returns-else-is_digit : goal.returns-else-is_digit
returns-else-is_digit c = no_number c.args.bytes.now c.args.at c.requires.within
    (no_sign_number _ _ _ c.requires.front (tested is_digit _ c.byte_at-next.ensures c.is_digit.ensures c.if-is_digit.false))
