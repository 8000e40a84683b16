use Rattle.std.proofs.Common.{◌≡◌, ◌-◌, ◌≤◌, length}
use Rattle.call_graph.specs.Floods.{IsMet, IsFlood}
use Rattle.call_graph.proofs.edges.flood.Given as goal

abbrev pub invariant-loop-done : goal.invariant-loop-done
invariant-loop-done l = record {
  within : l.done ≤ length l.order.items;
  met : IsMet l.order.items l.met;
  classes : l.known.classes ≡ l.table;
  lines : l.known.lines ≡ l.lists;
  flood : IsFlood l.table l.lists l.fn.root l.order.items l.done l.calls.items;
}

abbrev pub decreases-loop-done : goal.decreases-loop-done
decreases-loop-done l = length l.met - l.done
