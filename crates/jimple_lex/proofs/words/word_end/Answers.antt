use Rattle.std.proofs.Common.{subst}
use Rattle.jimple_lex.specs.Forms.{IsSegment}
use Rattle.jimple_lex.specs.Ends.{EndsLongest}
use Rattle.jimple_lex.proofs.Places.{initializer_word, joined_word, no_joined_word}
use Rattle.jimple_lex.proofs.words.word_end.Goals as goal

pub returns-then-bytes-at-eq60 : goal.returns-then-bytes-at-eq60
returns-then-bytes-at-eq60 c = initializer_word c.args.bytes.now c.args.at c.requires c.initializer_end.result c.if-bytes-at-eq60.true c.initializer_end.ensures

pub returns-then-first-at : goal.returns-then-first-at
returns-then-first-at c = no_joined_word c.args.bytes.now c.args.at c.requires
    (subst (EndsLongest IsSegment c.args.bytes.now c.args.at) c.if-first-at.true c.segment_end-first.ensures) c.if-bytes-at-eq60.false

pub returns-else-first-at : goal.returns-else-first-at
returns-else-first-at c = joined_word c.args.bytes.now c.args.at c.requires c.joined_end.result c.joined_end.ensures.order c.joined_end.ensures.within c.joined_end.ensures.longest
