use Rattle.std.proofs.Common.{◌≡◌, ◌∙◌, ◌<◌, arith, Some, [], map, ap, subst, sym, refl, IsTrue, true≢false}
use Rattle.clap.proofs.WalkLemmas.{first_value-rows}
use Rattle.clap.specs.Matches.{found_of}
use Rattle.clap.specs.Walk.{first_of}
use Rattle.command_line.specs.Words.{IsGiven, Text}
use Rattle.command_line.specs.Written.{rows_in}
use Rattle.command_line.proofs.Loops.{one_further, text_at, length_texts}
use Rattle.command_line.proofs.matches.has_given_values.Goals as goal

pub returns-then-not-is_absent_or_given : goal.returns-then-not-is_absent_or_given
returns-then-not-is_absent_or_given c = (
  (λ bad. absurd (true≢false (sym bad))),
  (λ all.
      let texts = c.args.options.now in
      let k = c.loop-option.option-index in
      let here = all k [] (subst (λ n. k < n) (sym (length_texts texts)) c.loop-option-test.true) in
      let name = ap (λ n. first_of n (rows_in c.args.line.now)) (text_at texts k [] _ c.loop-option-test.true) in
      let found = c.get_str.ensures ∙ first_value-rows (found_of c.args.line.now) _ ∙ name in
      subst IsTrue c.if-not-is_absent_or_given.true (c.is_absent_or_given.ensures.1 (λ v e. here v (sym found ∙ e)))),
)

pub loop-option-preserved : goal.loop-option-preserved
loop-option-preserved c =
    let texts = c.args.options.now in
    let rows = rows_in c.args.line.now in
    let yes : IsTrue c.is_absent_or_given.result = subst IsTrue (sym c.if-not-is_absent_or_given.false) refl in
    let value = c.get_str.ensures ∙ first_value-rows (found_of c.args.line.now) _ in
    one_further (λ n. (v : Text) → first_of n rows ≡ Some v → IsGiven v) (map (λ s. s.now) texts) c.loop-option.option-index c.loop-option.invariant
    (λ d v e. c.is_absent_or_given.ensures.0 yes v (value ∙ ap (λ n. first_of n rows) (text_at texts c.loop-option.option-index d _ c.loop-option-test.true) ∙ e))

pub returns : goal.returns
returns c = (
  (λ yes k d lt. c.loop-option.invariant k d (let l = length_texts c.args.options.now in let end = c.loop-option-test.false in omega (arith, l, end, lt))),
  (λ all. refl),
)
