use Rattle.std.proofs.Common.{[], map, subst, sym, ◌<◌, IsTrue, true≢false, refl}
use Rattle.command_line.specs.Words.{IsGiven}
use Rattle.command_line.proofs.Loops.{one_further, text_at, length_texts}
use Rattle.command_line.proofs.words.are_given.Goals as goal

pub returns-then-not-is_given : goal.returns-then-not-is_given
returns-then-not-is_given c = (
  (λ bad. absurd (true≢false (sym bad))),
  (λ all.
      let here = all c.loop-text.text-index [] (subst (λ n. c.loop-text.text-index < n) (sym (length_texts c.args.texts.now)) c.loop-text-test.true) in
      let given = subst IsGiven (sym (text_at c.args.texts.now c.loop-text.text-index [] _ c.loop-text-test.true)) here in
      subst IsTrue c.if-not-is_given.true (c.is_given.ensures.1 given)),
)

pub loop-text-preserved : goal.loop-text-preserved
loop-text-preserved c =
    let yes : IsTrue c.is_given.result = subst IsTrue (sym c.if-not-is_given.false) refl in
    one_further IsGiven (map (λ s. s.now) c.args.texts.now) c.loop-text.text-index c.loop-text.invariant
    (λ d. subst IsGiven (text_at c.args.texts.now c.loop-text.text-index d _ c.loop-text-test.true) (c.is_given.ensures.0 yes))
