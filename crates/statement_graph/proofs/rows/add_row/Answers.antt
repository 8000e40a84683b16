use Rattle.std.proofs.Common.{ℕ, ◌+◌, ◌<◌, ◌^◌, map}
use Rattle.std.proofs.lemmas.Result.{IfOk-weaker}
use Rattle.statement_graph.proofs.Rowed.{adds_row, in_order_fit, shifted_is}
use Rattle.statement_graph.proofs.rows.add_row.Goals as goal

pub add_numbers-requires-clause-fit : goal.add_numbers-requires-clause-fit
add_numbers-requires-clause-fit c = in_order_fit (λ (t : ℕ). c.args.first + t < 2 ^ 32) c.args.places.now c.sort.new.self c.as_slice.result.now c.sort.ensures.same c.as_slice.ensures c.requires

pub returns : goal.returns
returns c = IfOk-weaker c.add_numbers.result _ _ (λ ok adds. (
  map (λ (t : ℕ). c.args.first + t) c.as_slice.result.now,
  shifted_is c.args.first c.args.places.now c.sort.new.self c.as_slice.result.now c.sort.ensures.sorted c.sort.ensures.same c.as_slice.ensures,
  adds_row c.args.rows.now c.open_row.new.self c.add_numbers.new.rows (map (λ (t : ℕ). c.args.first + t) c.as_slice.result.now) c.in_ok-open_row.ensures adds,
)) c.add_numbers.ensures
