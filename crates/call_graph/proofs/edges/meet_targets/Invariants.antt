use Rattle.std.proofs.Common.{take}
use Rattle.call_graph.specs.Floods.{IsMet, IsMore, IsTargetIn}
use Rattle.call_graph.proofs.edges.meet_targets.Given as goal

abbrev pub invariant-loop-edge : goal.invariant-loop-edge
invariant-loop-edge l = record {
  met : IsMet l.order.items l.met;
  more : IsMore (IsTargetIn (take l.edge-index l.edges)) l.fn.order.items l.order.items;
}
