use Rattle.std.proofs.Common.{sym, ◌∙◌, ap, suc, drop, slice_index}
use Rattle.jimple_lex.specs.Front.{front}
use Rattle.jimple_lex.proofs.Places.{front_is}
use Rattle.jimple_lex.proofs.Fronts.{front_left}
use Rattle.jimple_lex.proofs.front.front_at.Goals as goal

pub returns-else-begins_unsigned : goal.returns-else-begins_unsigned
returns-else-begins_unsigned c = c.front_of_sign.ensures
    ∙ sym (ap front (front_is c.args.bytes.now c.args.at c.requires)
    ∙ front_left (slice_index c.args.bytes.now c.args.at) (drop (suc c.args.at) c.args.bytes.now) (sym c.is_blank.ensures ∙ c.if-is_blank.false) (sym c.begins_segment.ensures ∙ c.if-begins_segment.false) (sym c.begins_unsigned.ensures ∙ c.if-begins_unsigned.false))
