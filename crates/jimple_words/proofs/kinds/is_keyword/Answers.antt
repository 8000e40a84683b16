use Rattle.std.proofs.Common.{◌∙◌, ap, not, ◌==◌}
use Rattle.jimple_words.specs.declared.kind.Kind.{Kind}
use Rattle.jimple_words.specs.Kind.{number}
use Rattle.jimple_words.proofs.Tables.{keyword_is}
use Rattle.jimple_words.proofs.kinds.is_keyword.Goals as goal

pub returns : goal.returns
returns c = ap not c.is.ensures ∙ ap (λ (k : Kind). not (number k == 0)) c.keyword_kind.ensures ∙ keyword_is c.args.text.now
