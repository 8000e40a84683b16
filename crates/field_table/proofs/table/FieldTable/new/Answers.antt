use Rattle.std.proofs.lemmas.Result.{on_ok_weaker}
use Rattle.field_table.proofs.Places.{no_fault}
use Rattle.field_table.proofs.table.FieldTable.new.Goals as goal

pub returns-clause-faultless : goal.returns-clause-faultless
returns-clause-faultless c = on_ok_weaker c.made.result (no_fault c.args.table.now) c.made.ensures.few
