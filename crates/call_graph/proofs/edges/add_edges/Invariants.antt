use Rattle.std.proofs.Common.{◌≡◌, ◌++◌, map, take}
use Rattle.call_graph.specs.Floods.{edge_to}
use Rattle.call_graph.proofs.edges.add_edges.Given as goal

abbrev pub invariant-loop-target : goal.invariant-loop-target
invariant-loop-target l = l.calls.items ≡ l.fn.calls.items ++ map (edge_to l.caller l.place) (take l.target-index l.targets)
