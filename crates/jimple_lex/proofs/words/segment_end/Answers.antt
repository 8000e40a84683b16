use Rattle.std.proofs.Common.{◌∙◌, refl}
use Rattle.jimple_words.specs.Bytes.{begins_plain}
use Rattle.jimple_lex.proofs.Places.{plain_there, no_segment, within_by, tested}
use Rattle.jimple_lex.proofs.words.segment_end.Goals as goal

pub returns-then-begins_plain : goal.returns-then-begins_plain
returns-then-begins_plain c =
    let b = tested begins_plain _ c.byte_at-c.ensures c.begins_plain.ensures c.if-begins_plain.true in
    plain_there c.args.bytes.now c.args.at c.plain_end.result (within_by begins_plain c.args.bytes.now c.args.at refl b) b c.plain_end.ensures

pub returns-else-c-eq39 : goal.returns-else-c-eq39
returns-else-c-eq39 c =
    let b = tested begins_plain _ c.byte_at-c.ensures c.begins_plain.ensures c.if-begins_plain.false in
    no_segment c.args.bytes.now c.args.at c.requires b (λ same. c.if-c-eq39.false (c.byte_at-c.ensures ∙ same))
