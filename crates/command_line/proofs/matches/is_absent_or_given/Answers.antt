use Rattle.std.proofs.Common.{◌∙◌, sym, ap, subst, option_map, unwrap_or}
use Rattle.command_line.specs.Words.{IsGiven}
use Rattle.command_line.proofs.matches.is_absent_or_given.Goals as goal

pub returns-in-Some : goal.returns-in-Some
returns-in-Some c =
    let same = ap (option_map (λ s. s.now)) c.in-Some.is in (
      (λ yes v e. subst IsGiven (ap (λ o. unwrap_or o v) (sym same ∙ e)) (c.is_given.ensures.0 yes)),
      (λ all. c.is_given.ensures.1 (all c.in-Some.value.now same)),
    )
