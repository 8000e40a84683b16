use Rattle.std.proofs.Common.{subst, sym}
use Rattle.class_table.specs.Faults.{IsFirstDouble, double}
use Rattle.class_table.proofs.names.double.Goals as goal

pub returns-in-Ok : goal.returns-in-Ok
returns-in-Ok c = double c.requires.few (subst (IsFirstDouble c.args.classes.now) (sym c.in-Ok.ensures) c.requires.double)
