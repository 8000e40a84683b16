use Rattle.std.proofs.Common.{◌∙◌, IsUtf8, subst}
use Rattle.std.proofs.lemmas.List.{get_or_read}
use Rattle.command_line.proofs.Loops.{one_further}
use Rattle.command_line.proofs.words.see_text.Goals as goal

pub loop-word-preserved : goal.loop-word-preserved
loop-word-preserved c =
    one_further IsUtf8 c.args.words.now c.loop-word.word-index c.loop-word.invariant
    (λ d. subst IsUtf8 (c.as_str-text.ensures ∙ get_or_read c.args.words.now c.loop-word.word-index _ c.loop-word-test.true c.word-item.is d) c.as_str-text.utf8)
