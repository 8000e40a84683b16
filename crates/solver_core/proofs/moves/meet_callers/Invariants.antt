use Rattle.std.proofs.Common.{◌≡◌, ◌+◌, ◌++◌, take, map}
use Rattle.std.specs.VecDeque.{deque_len, deque_capacity}
use Rattle.entry_tables.specs.Tables.{callers_of}
use Rattle.solver_core.specs.Joins.{exit_join}
use Rattle.solver_core.proofs.moves.meet_callers.Given as goal

abbrev pub invariant-loop-at : goal.invariant-loop-at
invariant-loop-at g l = record {
  joins : l.queue.items ≡ l.fn.queue.items ++ map (exit_join l.callee l.exit) (take l.at (callers_of l.tables l.callee));
  len : deque_len l.queue ≡ deque_len l.fn.queue + l.at;
  room : deque_capacity l.queue ≡ deque_capacity l.fn.queue;
}
