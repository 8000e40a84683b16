use Rattle.std.proofs.Common.{◌∙◌, ap, sym, map-id}
use Rattle.clap.specs.Simple.{app_of, matches_of}
use Rattle.clap.specs.Faults.{fault_of}
use Rattle.command_line.proofs.Exact.{both}
use Rattle.command_line.proofs.line.matched.Goals as goal

pub returns-in-Ok-clause-some : goal.returns-in-Ok-clause-some
returns-in-Ok-clause-some c = λ simple.
    let words = c.args.words.now in
    let same = map-id words in (
      ap (fault_of (app_of c.args.command)) (sym same) ∙ c.in-Ok.ensures.kinds simple,
      (c.in-Ok.ensures.matches (both _ _ simple).0).0 ∙ ap (matches_of (app_of c.args.command)) same,
    )
