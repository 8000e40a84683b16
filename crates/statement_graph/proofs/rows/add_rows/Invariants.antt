use Rattle.std.proofs.Common.{◌≡◌, ◌≤◌, ℕ, [], get_or}
use Rattle.statement_graph.proofs.Rowed.{RowsBehind}
use Rattle.statement_graph.proofs.rows.add_rows.Given as goal

abbrev pub invariant-loop-at : goal.invariant-loop-at
invariant-loop-at l = record {
  rows : RowsBehind l.body l.first l.at l.fn.rows l.rows;
  left : (s : ℕ) → l.at ≤ s → get_or l.places s [] ≡ get_or l.initial.places s [];
}
