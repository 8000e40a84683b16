use Rattle.std.proofs.Common.{◌≡◌, length}
use Rattle.statement_graph.proofs.Gathered.{OwnBelow}
use Rattle.statement_graph.proofs.bodies.own_lists.Given as goal

abbrev pub invariant-loop-at : goal.invariant-loop-at
invariant-loop-at l = record {
  len : length l.lists.items ≡ l.at;
  own : OwnBelow l.stmts l.lists.items l.at;
}
