use Rattle.std.proofs.Common.{◌↔◌, ◌<◌, ℕ, List, Contains, length, sym, subst, arith}
use Rattle.std.proofs.lemmas.Grind.{div_ceil_times}
use Rattle.std.proofs.lemmas.List.{with_items_is}
use Rattle.reach_rows.specs.Bits.{IsShaped, lists_of}
use Rattle.reach_rows.specs.Closure.{IsClosure}
use Rattle.reach_rows.proofs.Closed.{all_closed}
use Rattle.reach_rows.proofs.closure.close.Goals as goal

pub returns : goal.returns
returns c =
    let rows = c.args.rows.now in
    let width = c.div_ceil-width.result in
    let new = c.fill.new.bits in
    let times = div_ceil_times (length rows) 64 (omega arith) in
    let shape : IsShaped (length rows) width new = record { wide = omega (arith, times.0, c.div_ceil-width.ensures); long = omega (arith, c.fill.auto.bits, c.as_mut_slice.ensures.len, c.in_ok-bits.ensures.len) } in
    subst (λ (ws : List ℕ). IsClosure rows (record { count = length rows; rows = lists_of (length rows) width ws })) (sym (with_items_is c.in_ok-bits.bits new (omega (arith, c.fill.auto.bits, c.as_mut_slice.ensures.len))))
    (all_closed rows c.requires.graph width new shape c.fill.ensures.sound c.fill.ensures.own c.fill.ensures.closed)

pub fill-requires-clause-nodes : goal.fill-requires-clause-nodes
fill-requires-clause-nodes c a = subst (λ (ns : List ℕ). Contains ns a ↔ (a < length c.args.rows.now)) (sym c.as_slice.ensures.value) (c.in_ok-order.ensures.all a)
