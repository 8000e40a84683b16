use Rattle.std.proofs.Common.{rules, sym, ◌∙◌}
use Rattle.leak_report.proofs.Named.{local_text_of}
use Rattle.leak_report.proofs.report.write_local.Goals as goal

pub returns : goal.returns
returns c =
    let is = c.local_name.ensures in
    let text = local_text_of c.args.program.now c.args.m c.args.x is.0 is.1 is.2 is.3 is.4 in
    let bytes = c.bytes.ensures ∙ is.5 ∙ sym text in
    search (rules, bytes)
