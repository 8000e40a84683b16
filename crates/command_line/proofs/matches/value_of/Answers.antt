use Rattle.std.proofs.Common.{◌∙◌, sym, ap, cond, None}
use Rattle.clap.proofs.WalkLemmas.{first_value-rows}
use Rattle.clap.specs.Matches.{found_of}
use Rattle.clap.specs.Walk.{first_of, rows_of}
use Rattle.command_line.proofs.matches.value_of.Goals as goal

pub returns : goal.returns
returns c = λ other.
    let found = found_of c.args.line.now in
    c.get_str.ensures ∙ first_value-rows found c.args.option.now ∙ sym (ap (λ b. cond b None (first_of c.args.option.now (rows_of found))) other)
