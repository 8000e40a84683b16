use Rattle.std.proofs.Common.{◌≡◌, take, length}
use Rattle.statement_graph.proofs.Gathered.{CaughtAt}
use Rattle.statement_graph.proofs.bodies.add_catches.Given as goal

abbrev pub invariant-loop-catch : goal.invariant-loop-catch
invariant-loop-catch l = record {
  len : length l.lists ≡ length l.fn.lists;
  caught : CaughtAt (take l.catch-index l.catches) l.fn.lists l.lists;
}
