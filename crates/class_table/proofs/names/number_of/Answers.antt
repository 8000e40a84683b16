use Rattle.std.proofs.Common.{nat_eq, sym}
use lib.Pointwise.{pointwise, bytes_decides}
use Rattle.class_table.proofs.Once.{position_at, any_lacks}
use Rattle.class_table.proofs.names.number_of.Goals as goal

pub returns-in-Some : goal.returns-in-Some
returns-in-Some c = position_at (pointwise nat_eq) bytes_decides c.args.names.now.keys c.args.name.now c.in-Some.place (sym c.in-Some.ensures.index)

pub returns-in-None : goal.returns-in-None
returns-in-None c = any_lacks (pointwise nat_eq) bytes_decides c.args.names.now.keys c.args.name.now (sym c.in-None.ensures.found)
