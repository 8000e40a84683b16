use Rattle.std.proofs.lemmas.Result.{IfErr-weaker, IfOk-weaker}
use Rattle.class_table.proofs.Faulty.{no_fault, only_fault}
use Rattle.class_table.proofs.table.ClassTable.build.Goals as goal

pub returns-clause-faultless : goal.returns-clause-faultless
returns-clause-faultless c = IfOk-weaker c.made.result _ _ (λ t is. no_fault c.args.classes.items is.1) c.made.ensures.ok

pub returns-clause-only : goal.returns-clause-only
returns-clause-only c = IfErr-weaker c.made.result _ _ (only_fault c.args.classes.items) c.made.ensures.err
