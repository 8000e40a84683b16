use Rattle.std.proofs.Common.{sym, arith}
use Rattle.jimple_words.proofs.Digits.{too_high}
use Rattle.jimple_words.proofs.parameter.parameter_number.Goals as goal

pub returns-then-number-gt-MOST : goal.returns-then-number-gt-MOST
returns-then-number-gt-MOST c =
    let much = c.if-number-gt-MOST.true in
    let is = c.saturating_sub.ensures in
    sym (too_high c.args.digits.now c.loop-digit.number c.loop-digit.digit-index c.loop-digit-test.true c.loop-digit.invariant.rest (omega (arith, much, is)))
