use Rattle.std.proofs.Common.{◌≡◌, length, ap, arith}
use Rattle.source_sink.proofs.Marked.{no_mark_alone, more_behind, other_word, none_then}
use Rattle.source_sink.proofs.words.kind_alone.Goals as goal

pub returns-in_default-clause-none : goal.returns-in_default-clause-none
returns-in_default-clause-none c = no_mark_alone c.args.text.now c.in_default.ensures.none

pub returns-then-not-is_empty-clause-none : goal.returns-then-not-is_empty-clause-none
returns-then-not-is_empty-clause-none c = more_behind c.args.text.now c.in-Some.mark.now c.in-Some.rest.now c.in-Some.ensures.some
    (λ none. let some = c.if-not-is_empty.ensures in let empty : length c.in-Some.rest.now ≡ 0 = ap length none in grind (arith, some, empty))

pub returns-clause-none : goal.returns-clause-none
returns-clause-none c = none_then c.kind_of.result c.kind_of.ensures.none (other_word c.args.text.now c.in-Some.mark.now c.in-Some.rest.now c.in-Some.ensures.some)
