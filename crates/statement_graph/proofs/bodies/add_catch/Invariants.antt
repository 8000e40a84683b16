use Rattle.std.proofs.Common.{◌≡◌, ◌≤◌, length}
use Rattle.statement_graph.proofs.Gathered.{HandledBelow}
use Rattle.statement_graph.proofs.bodies.add_catch.Given as goal

abbrev pub invariant-loop-at : goal.invariant-loop-at
invariant-loop-at l = record {
  len : length l.lists ≡ length l.fn.lists;
  early : l.catch.to ≤ l.catch.from → l.at ≤ l.catch.from;
  handled : HandledBelow l.catch l.fn.lists l.lists l.at;
}
