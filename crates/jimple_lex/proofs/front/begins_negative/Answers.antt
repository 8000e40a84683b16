use Rattle.std.proofs.Common.{◌∙◌, ap, suc, drop, slice_index}
use Rattle.jimple_words.specs.Bytes.{is_digit}
use Rattle.jimple_lex.proofs.Fronts.{negative_there, digit_behind}
use Rattle.jimple_lex.proofs.front.begins_negative.Goals as goal

pub returns-then-bytes-at-eq45 : goal.returns-then-bytes-at-eq45
returns-then-bytes-at-eq45 c = negative_there (slice_index c.args.bytes.now c.args.at) (drop (suc c.args.at) c.args.bytes.now) c.if-bytes-at-eq45.true
    (c.is_digit.ensures ∙ ap is_digit c.byte_at.ensures ∙ digit_behind c.args.bytes.now c.args.at)
