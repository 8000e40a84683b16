use Rattle.std.proofs.Common.{◌≡◌, ◌∙◌, ap, sym, subst, map, All, true≢false}
use Rattle.clap.specs.Faults.{fault_of, is_simple_and_free}
use Rattle.clap.specs.Simple.{app_of, matches_of}
use Rattle.command_line.specs.Words.{IsGiven}
use Rattle.command_line.specs.Written.{HasGivenValues, given_in, rows_in, written}
use Rattle.command_line.proofs.Exact.{files_are_given, line_read, line_taken, values_are_given}
use Rattle.command_line.proofs.line.read_line.Goals as goal

pub returns-in_default-clause-none : goal.returns-in_default-clause-none
returns-in_default-clause-none c = λ fit given gives.
    let words = c.args.words.now in
    let options = map (λ s. s.now) c.args.options.now in
    let same : app_of c.in_ok-command.command ≡ written c.args.name.now options = c.in_ok-command.ensures in
    let refused = rw c.in_default.is at c.in_ok-line.ensures.none (ap is_simple_and_free same ∙ fit.simple) in
    refused (ap (λ a. fault_of a words) same ∙ line_taken c.args.name.now options fit words given gives)

pub returns-then-not-is_all_given-clause-none : goal.returns-then-not-is_all_given-clause-none
returns-then-not-is_all_given-clause-none c = λ fit given gives.
    let words = c.args.words.now in
    let options = map (λ s. s.now) c.args.options.now in
    let same : app_of c.in_ok-command.command ≡ written c.args.name.now options = c.in_ok-command.ensures in
    let got = rw c.in-Some.is at c.in_ok-line.ensures.some (ap is_simple_and_free same ∙ fit.simple) in
    let rows : rows_in c.in-Some.line ≡ matches_of (written c.args.name.now options) words = got.1 ∙ ap (λ a. matches_of a words) same in
    let files = subst (λ r. All IsGiven (given_in r).files) (sym rows) (files_are_given c.args.name.now options fit words given gives) in
    let values = subst (HasGivenValues options) (sym rows) (values_are_given c.args.name.now options fit words given gives) in
    true≢false (sym (c.is_all_given.ensures.1 (files, values)) ∙ c.if-not-is_all_given.true)

pub returns-clause-some : goal.returns-clause-some
returns-clause-some c = λ fit.
    let words = c.args.words.now in
    let options = map (λ s. s.now) c.args.options.now in
    let same : app_of c.in_ok-command.command ≡ written c.args.name.now options = c.in_ok-command.ensures in
    let got = rw c.in-Some.is at c.in_ok-line.ensures.some (ap is_simple_and_free same ∙ fit.simple) in
    let rows : rows_in c.in-Some.line ≡ matches_of (written c.args.name.now options) words = got.1 ∙ ap (λ a. matches_of a words) same in
    let given = c.is_all_given.ensures.0 c.if-not-is_all_given.false in
    subst (λ r. Rattle.command_line.specs.Words.IsOnly (Rattle.command_line.specs.Words.Gives c.args.name.now options words) (given_in r)) (sym rows)
    (line_read c.args.name.now options fit words (c.is_first.ensures.0 c.if-not-is_first.false) c.see_text.ensures
    (ap (λ a. fault_of a words) (sym same) ∙ got.0)
    (subst (λ r. All IsGiven (given_in r).files) rows given.0) (subst (HasGivenValues options) rows given.1))
