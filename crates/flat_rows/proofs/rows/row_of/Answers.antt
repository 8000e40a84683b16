use Rattle.std.proofs.Common.{◌∙◌, sym, length}
use Rattle.flat_rows.proofs.Kept.{bounds_at, row_is}
use Rattle.flat_rows.proofs.rows.row_of.Goals as goal

pub part-requires-clause-order : goal.part-requires-clause-order
part-requires-clause-order g c = (bounds_at c.args.starts.now (length c.args.items.now) c.args.row c.end_of-end.result c.requires.starts c.requires.row c.end_of-end.ensures).0

pub part-requires-clause-within : goal.part-requires-clause-within
part-requires-clause-within g c = (bounds_at c.args.starts.now (length c.args.items.now) c.args.row c.end_of-end.result c.requires.starts c.requires.row c.end_of-end.ensures).1

pub returns : goal.returns
returns g c = c.part.ensures ∙ sym (row_is c.args.starts.now c.args.items.now c.args.row c.end_of-end.result c.requires.row c.end_of-end.ensures)
