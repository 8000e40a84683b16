use Rattle.std.proofs.Common.{◌∙◌, ap, sym, subst, refl, All, [], length, codes, unwrap_or, arith}
use Rattle.clap.proofs.WalkLemmas.{raw_values-rows}
use Rattle.clap.specs.Matches.{found_of}
use Rattle.command_line.specs.Words.{IsGiven}
use Rattle.command_line.proofs.matches.has_given_files.Goals as goal

pub returns-in-Some : goal.returns-in-Some
returns-in-Some c =
    let same = ap (λ o. unwrap_or o []) (c.in-Some.ensures ∙ raw_values-rows (found_of c.args.line.now) (codes "file")) in (
      (λ yes. subst (All IsGiven) same (c.are_given.ensures.0 yes)),
      (λ all. c.are_given.ensures.1 (subst (All IsGiven) (sym same) all)),
    )

pub returns-in-None : goal.returns-in-None
returns-in-None c =
    let none = ap length (ap (λ o. unwrap_or o []) (c.in-None.ensures ∙ raw_values-rows (found_of c.args.line.now) (codes "file"))) in (
      (λ yes k d lt. absurd (omega (arith, none, lt))),
      (λ all. refl),
    )
