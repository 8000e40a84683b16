use Rattle.std.proofs.Common.{arith}
use Rattle.std.proofs.lemmas.Grind.{common_steps}
use Rattle.std.proofs.lemmas.Option.{get_or_from_slice_get, slice_get_within}
use Rattle.leak_report.proofs.Named.{got_contained}
use Rattle.leak_report.proofs.report.write_steps.Goals as goal

pub write_step-requires : goal.write_step-requires
write_step-requires c = c.requires c.at.result (got_contained c.args.fields c.loop-i.i c.at.result c.at.ensures)

pub loop-i-preserved : goal.loop-i-preserved
loop-i-preserved c =
    let within = slice_get_within c.args.fields c.loop-i.i c.at.result c.at.ensures in
    let got = get_or_from_slice_get c.args.fields c.loop-i.i c.at.result c.at.result c.at.ensures in
    grind (arith, common_steps)
