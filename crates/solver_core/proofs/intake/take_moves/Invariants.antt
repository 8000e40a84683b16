use Rattle.std.proofs.Common.{◌≡◌, ◌+◌, ◌≤◌, length, take, drop, Contains}
use Rattle.std.specs.List.{sum_by}
use Rattle.std.specs.VecDeque.{deque_len, deque_capacity}
use Rattle.ifds_model.specs.State.{At}
use Rattle.solver_core.specs.Numbers.{context_at}
use Rattle.solver_core.specs.Room.{HasStarts, HasRoomFor, IsOf, edges_of, works_of}
use Rattle.solver_core.specs.Seen.{AreFit, TakesInParts}
use Rattle.solver_core.proofs.intake.take_moves.Given as goal

abbrev pub invariant-loop-ready : goal.invariant-loop-ready
invariant-loop-ready g l = record {
  fit : AreFit l.parts;
  known : At l.parts.tables.contexts l.context (context_at (g.P.Problem.machine l.problem).root l.fn.parts.tables.contexts l.context);
  taken : TakesInParts (g.P.Problem.machine l.problem) l.context (IsOf (take l.ready-index l.readies)) l.fn.parts l.parts;
  starts : (r : _) → Contains l.readies r → HasStarts (g.P.Problem.machine l.problem) l.parts.tables r.starts.items r.step;
  room : HasRoomFor l.context l.parts (drop l.ready-index l.readies);
  flights : l.parts.flights ≡ l.fn.parts.flights;
  held : l.parts.edges.held.found ≤ l.fn.parts.edges.held.found + sum_by edges_of (take l.ready-index l.readies);
  queue_len : deque_len l.parts.queue ≤ deque_len l.fn.parts.queue + sum_by works_of (take l.ready-index l.readies);
  queue_room : deque_capacity l.parts.queue ≡ deque_capacity l.fn.parts.queue;
}
