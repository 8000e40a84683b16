use Rattle.std.proofs.Common.{sym, ◌∙◌, ap}
use Rattle.jimple_lex.specs.Tokens.{begins_comment}
use Rattle.jimple_lex.specs.Front.{begins_initializer}
use Rattle.jimple_lex.proofs.Places.{front_is, tail_slice}
use Rattle.jimple_lex.proofs.Fronts.{sign_left, differs}
use Rattle.jimple_lex.proofs.front.front_of_sign.Goals as goal

pub returns-else-begins_initializer : goal.returns-else-begins_initializer
returns-else-begins_initializer c =
    let front = front_is c.args.bytes.now c.args.at c.requires in
    sign_left _ _ _ _ (differs _ _ c.if-c-eq34.false) (sym c.begins_negative.ensures ∙ c.if-begins_negative.false)
    (ap begins_comment (sym front) ∙ sym c.begins_comment.ensures ∙ c.if-begins_comment.false)
    (ap begins_initializer (sym front ∙ sym (tail_slice c.args.bytes.now c.args.at)) ∙ sym c.begins_initializer.ensures ∙ c.if-begins_initializer.false)
