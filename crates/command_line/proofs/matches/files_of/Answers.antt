use Rattle.std.proofs.Common.{◌∙◌, length, arith, true≢false, sym, subst, [], ap, unwrap_or, codes}
use Rattle.clap.proofs.WalkLemmas.{raw_values-rows}
use Rattle.clap.specs.Matches.{found_of}
use Rattle.command_line.specs.Words.{AreFiles}
use Rattle.command_line.proofs.matches.files_of.Goals as goal

pub returns-in_default-clause-none : goal.returns-in_default-clause-none
returns-in_default-clause-none c = λ files.
    let none = ap length (ap (λ o. unwrap_or o []) (c.in_default.ensures ∙ raw_values-rows (found_of c.args.line.now) (codes "file"))) in
    let some = files.some in
    absurd (omega (arith, none, some))

pub returns-then-not-are_files-clause-none : goal.returns-then-not-are_files-clause-none
returns-then-not-are_files-clause-none c = λ files.
    let same = ap (λ o. unwrap_or o []) (c.in-Some.ensures ∙ raw_values-rows (found_of c.args.line.now) (codes "file")) in
    true≢false (sym (c.are_files.ensures.1 (subst AreFiles (sym same) files)) ∙ c.if-not-are_files.true)

pub returns-clause-some : goal.returns-clause-some
returns-clause-some c =
    let same = ap (λ o. unwrap_or o []) (c.in-Some.ensures ∙ raw_values-rows (found_of c.args.line.now) (codes "file")) in
    (c.in_ok-copies_of.ensures ∙ same, subst AreFiles (sym c.in_ok-copies_of.ensures) (c.are_files.ensures.0 c.if-not-are_files.false))
