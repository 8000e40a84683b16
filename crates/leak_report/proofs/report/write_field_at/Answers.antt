use Rattle.leak_report.proofs.Named.{field_text_of}
use Rattle.leak_report.proofs.report.write_field_at.Goals as goal

pub returns-in-Some : goal.returns-in-Some
returns-in-Some c =
    let declared = c.in-Some.ensures.some in
    rw (field_text_of c.args.program.now.fields c.args.field.0 c.in-Some.sig.now declared.0 declared.1) c.write_field.ensures
