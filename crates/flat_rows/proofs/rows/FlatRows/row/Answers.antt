use Rattle.std.proofs.Common.{ap, length, arith}
use Rattle.flat_rows.proofs.Kept.{rows_length}
use Rattle.flat_rows.proofs.rows.FlatRows.row.Goals as goal

pub row_of-requires-clause-starts : goal.row_of-requires-clause-starts
row_of-requires-clause-starts g c = rw (c.as_slice.ensures.value, c.as_slice-2.ensures.value) c.self.invariant

pub row_of-requires-clause-row : goal.row_of-requires-clause-row
row_of-requires-clause-row g c = omega (arith, c.requires, ap length c.as_slice-2.ensures.value, rows_length c.self.inside.starts.items c.self.inside.items.items, ap length c.self.view_is)

pub returns : goal.returns
returns g c = rw (c.row_of.ensures, c.as_slice.ensures.value, c.as_slice-2.ensures.value, c.self.view_is)
