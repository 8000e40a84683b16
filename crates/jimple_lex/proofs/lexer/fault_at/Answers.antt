use Rattle.std.proofs.Common.{◌∙◌, sym, refl}
use Rattle.jimple_lex.specs.Front.{no_begin, no_end}
use Rattle.jimple_lex.proofs.lexer.fault_at.Goals as goal

pub returns-then-opens_at : goal.returns-then-opens_at
returns-then-opens_at c = no_end refl refl (sym c.opens_at.ensures ∙ c.if-opens_at.true)

pub returns-else-opens_at : goal.returns-else-opens_at
returns-else-opens_at c = no_begin refl refl (sym c.opens_at.ensures ∙ c.if-opens_at.false)
