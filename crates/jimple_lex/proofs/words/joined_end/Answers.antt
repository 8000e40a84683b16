use Rattle.std.proofs.Common.{◌≡◌, ◌<◌, suc, sym, ◌∙◌, refl, ap, subst, ◌==◌, arith, slice_index}
use Rattle.jimple_lex.specs.Bytes.{dot}
use Rattle.jimple_lex.specs.Forms.{IsSegment}
use Rattle.jimple_lex.specs.Ends.{EndsLongest}
use Rattle.jimple_lex.proofs.Segments.{joining_first, no_dot_next, no_segment_next, joining_on}
use Rattle.jimple_lex.proofs.Places.{within_by, segment_from}
use Rattle.jimple_lex.proofs.words.joined_end.Goals as goal

pub dots-init : goal.dots-init
dots-init c = joining_first c.args.bytes.now c.args.at c.args.first c.requires.some c.requires.within c.requires.segment

pub returns-then-next-to-clause-longest : goal.returns-then-next-to-clause-longest
returns-then-next-to-clause-longest c = no_segment_next c.args.bytes.now c.args.at c.dots.to c.dots.invariant
    (subst (EndsLongest IsSegment c.args.bytes.now (suc c.dots.to)) (let same : c.segment_end-next.result ≡ suc c.dots.to = omega arith in same) (segment_from c.args.bytes.now c.dots.to c.segment_end-next.result c.segment_end-next.ensures))

pub dots-preserved : goal.dots-preserved
dots-preserved c =
    let is : slice_index c.args.bytes.now c.dots.to ≡ dot = sym c.byte_at.ensures ∙ c.dots-test.true in
    let order : suc c.dots.to < c.segment_end-next.result = omega (arith, c.segment_end-next.ensures.order, c.if-next-to.false) in
    joining_on c.args.bytes.now c.args.at c.dots.to c.dots.invariant c.segment_end-next.result is (within_by (λ x. x == dot) c.args.bytes.now c.dots.to refl (ap (λ x. x == dot) is))
    (segment_from c.args.bytes.now c.dots.to c.segment_end-next.result c.segment_end-next.ensures) order

pub returns-clause-longest : goal.returns-clause-longest
returns-clause-longest c = no_dot_next c.args.bytes.now c.args.at c.dots.to c.dots.invariant (λ same. c.dots-test.false (c.byte_at.ensures ∙ same))
