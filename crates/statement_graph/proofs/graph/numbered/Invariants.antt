use Rattle.std.proofs.Common.{◌≡◌, map, take}
use Rattle.statement_graph.specs.Kept.{stmt_id}
use Rattle.statement_graph.proofs.graph.numbered.Given as goal

abbrev pub invariant-loop-at : goal.invariant-loop-at
invariant-loop-at l = l.ids ≡ map (map stmt_id) (take l.at l.rows)
