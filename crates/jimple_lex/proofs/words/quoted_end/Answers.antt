use Rattle.std.proofs.Common.{sym, ◌∙◌}
use Rattle.jimple_lex.proofs.Places.{quoted_there, quote_unended}
use Rattle.jimple_lex.proofs.words.quoted_end.Goals as goal

pub returns-then-byte_at-eq39 : goal.returns-then-byte_at-eq39
returns-then-byte_at-eq39 c = quoted_there c.args.bytes.now c.args.at c.quotable_end-to.result c.requires.within c.requires.quote c.quotable_end-to.ensures (sym c.byte_at.ensures ∙ c.if-byte_at-eq39.true)

pub returns-else-byte_at-eq39 : goal.returns-else-byte_at-eq39
returns-else-byte_at-eq39 c = quote_unended c.args.bytes.now c.args.at c.quotable_end-to.result c.requires.within c.requires.quote c.quotable_end-to.ensures (λ same. c.if-byte_at-eq39.false (c.byte_at.ensures ∙ same))
