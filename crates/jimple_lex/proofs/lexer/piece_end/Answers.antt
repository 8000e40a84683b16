use Rattle.std.proofs.Common.{◌+◌, sym, ap, ◌∙◌, drop, suc, slice_index, subst}
use Rattle.jimple_lex.specs.Ends.{Ends}
use Rattle.jimple_lex.specs.Front.{front, FormOf}
use Rattle.jimple_lex.specs.declared.front.Front.{Front}
use Rattle.jimple_lex.proofs.Places.{front_is}
use Rattle.jimple_lex.proofs.Fronts.{text_front, front_blank}
use Rattle.jimple_lex.proofs.Reading.{blank_there}
use Rattle.jimple_lex.proofs.lexer.piece_end.Goals as goal

pub text_end-requires-clause-quote : goal.text_end-requires-clause-quote
text_end-requires-clause-quote c = text_front (slice_index c.args.bytes.now c.args.at) (drop (suc c.args.at) c.args.bytes.now)
    (ap front (sym (front_is c.args.bytes.now c.args.at c.requires.within)) ∙ sym c.requires.front ∙ c.in-Text.is)

pub returns-in-Blank : goal.returns-in-Blank
returns-in-Blank c = subst (λ (f : Front). Ends (FormOf f) c.args.bytes.now c.args.at (c.args.at + 1)) (sym c.in-Blank.is)
    (blank_there c.args.bytes.now c.args.at c.requires.within (front_blank (slice_index c.args.bytes.now c.args.at) (drop (suc c.args.at) c.args.bytes.now)
    (ap front (sym (front_is c.args.bytes.now c.args.at c.requires.within)) ∙ sym c.requires.front ∙ c.in-Blank.is)))
