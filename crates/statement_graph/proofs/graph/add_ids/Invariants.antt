use Rattle.std.proofs.Common.{map, take}
use Rattle.flat_rows.specs.Rows.{AddsToLast}
use Rattle.statement_graph.specs.Kept.{stmt_id}
use Rattle.statement_graph.proofs.graph.add_ids.Given as goal

abbrev pub invariant-loop-number : goal.invariant-loop-number
invariant-loop-number l = AddsToLast l.fn.rows (map stmt_id (take l.number-index l.numbers)) l.rows
