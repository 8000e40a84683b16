use Rattle.std.proofs.Common.{subst, sym, arith}
use Rattle.std.specs.Prelude.{Contains}
use Rattle.class_table.proofs.rows.add_numbers.Goals as goal

pub known_number-requires-clause-known : goal.known_number-requires-clause-known
known_number-requires-clause-known c =
    subst (Contains c.args.names.now.keys) (sym c.name-item.is) (c.requires.known c.loop-name.name-index c.name-item.result (omega arith))
