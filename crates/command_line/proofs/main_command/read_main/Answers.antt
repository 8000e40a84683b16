use Rattle.std.proofs.Common.{◌≡◌, ◌∙◌, Some, [], ap, codes, refl, sym, true≢false, unwrap_or}
use Rattle.command_line.specs.Main.{IsMain, main_options}
use Rattle.command_line.specs.Words.{Given, IsOnly, Text}
use Rattle.command_line.specs.Written.{IsFit}
use Rattle.command_line.proofs.Asked.{asked_only, not_asked}
use Rattle.command_line.proofs.Exact.{some_not_none}
use Rattle.command_line.proofs.main_command.read_main.Goals as goal

fit : IsFit (codes "main") main_options
fit = record { simple = refl; built_so = refl; names = refl }

only : (given : Given) (components : Text) → given.files ≡ [] → given.value (codes "components") ≡ Some components → IsOnly (IsMain given) components
only given components none is = record {
  is = record { no_file = none; listed = is };
  only = λ other o. ap (λ v. unwrap_or v other) (sym o.listed ∙ is);
}

pub returns-in_default-clause-none : goal.returns-in_default-clause-none
returns-in_default-clause-none c = λ components asks. (rw c.in_default.is at c.in_ok-line.ensures.none fit) asks.given asks.gives

pub returns-then-not-has_no_file-clause-none : goal.returns-then-not-has_no_file-clause-none
returns-then-not-has_no_file-clause-none c =
    let gives = rw c.in-Some.is at c.in_ok-line.ensures.some fit in
    not_asked (codes "main") main_options c.args.words.now IsMain _ gives
    (λ components is. true≢false (sym (c.has_no_file.ensures.1 is.no_file) ∙ c.if-not-has_no_file.true))

pub returns-in_default-value_of-clause-none : goal.returns-in_default-value_of-clause-none
returns-in_default-value_of-clause-none c =
    let gives = rw c.in-Some.is at c.in_ok-line.ensures.some fit in
    not_asked (codes "main") main_options c.args.words.now IsMain _ gives
    (λ components is. some_not_none components (sym is.listed ∙ sym (c.in_default-value_of.ensures refl)))

pub returns-clause-some : goal.returns-clause-some
returns-clause-some c =
    let gives = rw c.in-Some.is at c.in_ok-line.ensures.some fit in
    asked_only (codes "main") main_options c.args.words.now IsMain _ gives _
    (only _ _ (c.has_no_file.ensures.0 c.if-not-has_no_file.false) (sym (c.in-Some-value_of.ensures refl) ∙ ap Some (sym c.in_ok-copy_of.ensures)))
