use Rattle.std.proofs.Common.{◌≡◌, length, arith}
use Rattle.flat_rows.proofs.Kept.{starts_open, rows_open}
use Rattle.flat_rows.proofs.rows.FlatRows.open_row.Goals as goal

pub invariant_of-self-2 : goal.invariant_of-self-2
invariant_of-self-2 g c =
    let long : c.len.result ≡ length c.self.inside.items.items = omega (arith, c.self.inside.items.ok.0) in
    rw (c.in_ok-push.ensures.items, long) (starts_open c.self.inside.starts.items (length c.self.inside.items.items) c.self.invariant)

pub returns : goal.returns
returns g c =
    let long : c.len.result ≡ length c.self.inside.items.items = omega (arith, c.self.inside.items.ok.0) in
    rw (c.in_ok-push.ensures.items, long, ← c.self.view_is) (rows_open c.self.inside.starts.items c.self.inside.items.items)
