use Rattle.std.proofs.Common.{subst}
use Rattle.program_code.specs.App.{IsMethod}
use Rattle.leak_report.specs.Report.{stmt_text}
use Rattle.leak_report.proofs.Appended.{two_parts}
use Rattle.leak_report.proofs.Named.{place_is}
use Rattle.leak_report.proofs.report.write_stmt.Goals as goal

pub returns : goal.returns
unfolding stmt_text
returns c =
    let code = c.args.program.now.code in
    let is_method = subst (IsMethod code) c.method_of.ensures.is c.method_of.ensures.method in
    let place = place_is code c.args.s c.place_of.result is_method c.place_of.ensures in
    let first = rw (c.table.ensures.is, c.method_of.ensures.is) at c.in_ok-write_method_at.ensures in
    let second = rw place at c.write_place.ensures in
    two_parts c.write_place.result _ _ _ _ _ first second
