use Rattle.std.proofs.Common.{ap, length, arith}
use Rattle.flat_rows.proofs.Kept.{rows_length}
use Rattle.flat_rows.proofs.rows.FlatRows.len.Goals as goal

pub returns : goal.returns
returns g c = omega (arith, c.self.inside.starts.ok.0, rows_length c.self.inside.starts.items c.self.inside.items.items, ap length c.self.view_is)
