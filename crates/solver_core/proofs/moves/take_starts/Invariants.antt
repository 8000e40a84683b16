use Rattle.std.proofs.Common.{◌≡◌, ◌+◌, ◌≤◌, length, take}
use Rattle.std.specs.VecDeque.{deque_len, deque_capacity}
use Rattle.solver_core.specs.Seen.{AreFit, TakesInParts, GoesTo}
use Rattle.solver_core.proofs.moves.take_starts.Given as goal

abbrev pub invariant-loop-node : goal.invariant-loop-node
invariant-loop-node g l = record {
  fit : AreFit l.parts;
  taken : TakesInParts (g.P.Problem.machine l.problem) l.context (GoesTo (take l.node-index l.starts) l.fact) l.fn.parts l.parts;
  tables : l.parts.tables ≡ l.fn.parts.tables;
  flights : l.parts.flights ≡ l.fn.parts.flights;
  marks : l.parts.marks ≡ l.fn.parts.marks;
  held : l.parts.edges.held.found ≤ l.fn.parts.edges.held.found + l.node-index;
  edge_room : l.fn.parts.edges.spare ≤ l.parts.edges.spare + l.node-index;
  queue_len : deque_len l.parts.queue ≤ deque_len l.fn.parts.queue + l.node-index;
  queue_room : deque_capacity l.parts.queue ≡ deque_capacity l.fn.parts.queue;
}
