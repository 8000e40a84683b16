use Rattle.std.proofs.Common.{◌≤◌, ◌<◌, length, sym, ◌∙◌, arith}
use Rattle.jimple_lex.proofs.Comments.{no_comment, line_there, block_there, unended_there}
use Rattle.jimple_lex.proofs.ends.comment_end.Goals as goal

pub returns-then-bytes-at-ne47 : goal.returns-then-bytes-at-ne47
returns-then-bytes-at-ne47 c = no_comment c.args.bytes.now c.args.at c.requires (λ same. absurd (c.if-bytes-at-ne47.true same))

pub returns-then-next-eq47 : goal.returns-then-next-eq47
returns-then-next-eq47 c = line_there c.args.bytes.now c.args.at c.line_end.result c.requires c.if-bytes-at-ne47.false (sym c.byte_at-next.ensures ∙ c.if-next-eq47.true) c.line_end.ensures

pub returns-then-next-ne42 : goal.returns-then-next-ne42
returns-then-next-ne42 c = no_comment c.args.bytes.now c.args.at c.requires
    (λ same. (λ next. c.if-next-eq47.false (c.byte_at-next.ensures ∙ next), λ next. c.if-next-ne42.true (c.byte_at-next.ensures ∙ next)))

pub returns-then-close-bytes : goal.returns-then-close-bytes
returns-then-close-bytes c = unended_there c.args.bytes.now c.args.at c.inside_end-close.result c.requires c.if-bytes-at-ne47.false (sym c.byte_at-next.ensures ∙ c.if-next-ne42.false) c.inside_end-close.ensures
    (let over : length c.args.bytes.now ≤ c.inside_end-close.result = omega (arith, c.if-close-bytes.true) in over)

pub returns-else-close-bytes : goal.returns-else-close-bytes
returns-else-close-bytes c = block_there c.args.bytes.now c.args.at c.inside_end-close.result c.requires c.if-bytes-at-ne47.false (sym c.byte_at-next.ensures ∙ c.if-next-ne42.false) c.inside_end-close.ensures
    (let below : c.inside_end-close.result < length c.args.bytes.now = omega (arith, c.if-close-bytes.false, c.inside_end-close.ensures.within) in below)
