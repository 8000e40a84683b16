use Rattle.std.proofs.Common.{ℕ, ◌+◌, map, take}
use Rattle.flat_rows.specs.Rows.{AddsToLast}
use Rattle.statement_graph.proofs.rows.add_numbers.Given as goal

abbrev pub invariant-loop-place : goal.invariant-loop-place
invariant-loop-place l = AddsToLast l.fn.rows (map (λ (t : ℕ). l.first + t) (take l.place-index l.places)) l.rows
