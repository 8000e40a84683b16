use Rattle.std.proofs.Common.{sym, ◌∙◌, arith}
use Rattle.source_sink.proofs.words.is_word.Goals as goal

pub returns-then-not-is_empty : goal.returns-then-not-is_empty
returns-then-not-is_empty c =
    let e = c.has_no_white_space.ensures in
    let empty = c.if-not-is_empty.ensures in
    (λ h. record { some = grind (arith, empty); each = sym e ∙ h }, λ w. e ∙ w.each)
