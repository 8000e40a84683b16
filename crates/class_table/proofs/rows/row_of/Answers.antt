use Rattle.std.specs.Prelude.{Contains}
use Rattle.class_table.specs.Kinds.{kind_names}
use Rattle.class_table.proofs.Rowed.{all_front, all_back}
use Rattle.class_table.proofs.rows.row_of.Goals as goal

pub add_numbers-requires-clause-known : goal.add_numbers-requires-clause-known
add_numbers-requires-clause-known c =
    all_front (Contains c.args.names.now.keys) c.parts.result.0.now c.parts.result.1.now (kind_names c.args.kind c.args.class.now) c.parts.ensures c.requires.known

pub add_numbers-requires-2-clause-known : goal.add_numbers-requires-2-clause-known
add_numbers-requires-2-clause-known c =
    all_back (Contains c.args.names.now.keys) c.parts.result.0.now c.parts.result.1.now (kind_names c.args.kind c.args.class.now) c.parts.ensures c.requires.known
