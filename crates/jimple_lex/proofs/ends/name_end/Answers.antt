use Rattle.std.proofs.Common.{◌∙◌}
use Rattle.jimple_words.specs.Bytes.{is_letter}
use Rattle.jimple_lex.proofs.Places.{tested}
use Rattle.jimple_lex.proofs.Numbers.{named_there, no_number, no_name_number}
use Rattle.jimple_lex.proofs.ends.name_end.Goals as goal

pub returns-then-is_letter : goal.returns-then-is_letter
returns-then-is_letter c = named_there c.args.bytes.now c.args.at c.letters_end.result c.requires.within c.requires.front
    (tested is_letter _ c.byte_at-next.ensures c.is_letter.ensures c.if-is_letter.true) c.letters_end.ensures

pub returns-else-next-eq45 : goal.returns-else-next-eq45
returns-else-next-eq45 c = no_number c.args.bytes.now c.args.at c.requires.within
    (no_name_number _ _ _ c.requires.front (tested is_letter _ c.byte_at-next.ensures c.is_letter.ensures c.if-is_letter.false) (λ same. absurd (c.if-next-eq45.false (c.byte_at-next.ensures ∙ same))))
