use Rattle.std.proofs.Common.{sym, ◌∙◌}
use Rattle.jimple_lex.proofs.Numbers.{unsigned_there, no_number, no_front_number}
use Rattle.jimple_lex.proofs.ends.number_end.Goals as goal

pub returns-then-is_digit : goal.returns-then-is_digit
returns-then-is_digit c = unsigned_there c.args.bytes.now c.args.at c.tail_end.result c.requires (sym c.is_digit.ensures ∙ c.if-is_digit.true) c.tail_end.ensures

pub returns-else-c-eq35 : goal.returns-else-c-eq35
returns-else-c-eq35 c = no_number c.args.bytes.now c.args.at c.requires
    (no_front_number _ _ _ (sym c.is_digit.ensures ∙ c.if-is_digit.false) c.if-c-eq45.false c.if-c-eq35.false)
