use Rattle.std.proofs.Common.{◌≡◌, ◌∙◌, List, [], codes, refl, subst, sym}
use Rattle.command_line.specs.Check.{IsCheck}
use Rattle.command_line.specs.Words.{AreFiles, Given, IsOnly, Text}
use Rattle.command_line.specs.Written.{IsFit}
use Rattle.command_line.proofs.Asked.{asked_only, none_found, not_asked, some_found}
use Rattle.command_line.proofs.check.read_check.Goals as goal

fit : IsFit (codes "check") []
fit = record { simple = refl; built_so = refl; names = refl }

only : (given : Given) (files : List Text) → files ≡ given.files → AreFiles files → IsOnly (IsCheck given) files
only given files is are = record { is = record { files_are = is; are_files = are }; only = λ other o. o.files_are ∙ sym is }

pub returns-in_default-clause-none : goal.returns-in_default-clause-none
returns-in_default-clause-none c = λ files asks. (rw c.in_default.is at c.in_ok-line.ensures.none fit) asks.given asks.gives

pub returns-clause-some : goal.returns-clause-some
returns-clause-some c =
    let gives = rw c.in-Some.is at c.in_ok-line.ensures.some fit in
    some_found c.files_of.result _ _ (λ files found. asked_only (codes "check") [] c.args.words.now IsCheck _ gives files (only _ files found.0 found.1)) c.files_of.ensures.some

pub returns-clause-none : goal.returns-clause-none
returns-clause-none c =
    let gives = rw c.in-Some.is at c.in_ok-line.ensures.some fit in
    none_found c.files_of.result _ _ (λ none. not_asked (codes "check") [] c.args.words.now IsCheck _ gives (λ files is. none (subst AreFiles is.files_are is.are_files))) c.files_of.ensures.none
