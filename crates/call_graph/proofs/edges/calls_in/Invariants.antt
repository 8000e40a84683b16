use Rattle.std.proofs.Common.{◌≡◌, ◌↔◌, ◌<◌, Contains}
use Rattle.call_graph.specs.Floods.{IsCallIn}
use Rattle.call_graph.specs.declared.edges.CallEdge.{CallEdge}
use Rattle.call_graph.proofs.edges.calls_in.Given as goal

abbrev pub invariant-loop-place : goal.invariant-loop-place
invariant-loop-place l = record {
  classes : l.known.classes ≡ l.fn.known.classes;
  lines : l.known.lines ≡ l.fn.known.lines;
  calls : (e : CallEdge) → Contains l.calls.items e ↔ ((e.place < l.place) × IsCallIn l.fn.known.classes l.fn.known.lines l.caller l.stmts e);
}
