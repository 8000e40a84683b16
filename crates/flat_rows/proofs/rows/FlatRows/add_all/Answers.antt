use Rattle.std.proofs.Common.{◌≤◌, ◌<◌, ◌++◌, ap, length, arith}
use Rattle.std.proofs.lemmas.List.{length-append}
use Rattle.flat_rows.proofs.Kept.{starts_more, rows_add, rows_length}
use Rattle.flat_rows.proofs.rows.FlatRows.add_all.Goals as goal

pub invariant_of-self-2 : goal.invariant_of-self-2
invariant_of-self-2 g c =
    let more : length c.self.inside.items.items ≤ length (c.self.inside.items.items ++ c.args.items.now) = omega (arith, length-append c.self.inside.items.items (c.args.items.now)) in
    rw c.in_ok-extend_from_slice.ensures.items (starts_more c.self.inside.starts.items _ _ more c.self.invariant)

pub returns : goal.returns
returns g c =
    let some : 0 < length c.self.inside.starts.items = omega (arith, c.requires, rows_length c.self.inside.starts.items c.self.inside.items.items, ap length c.self.view_is) in
    rw (c.in_ok-extend_from_slice.ensures.items, ← c.self.view_is) (rows_add c.self.inside.starts.items c.self.inside.items.items (c.args.items.now) some c.self.invariant)
