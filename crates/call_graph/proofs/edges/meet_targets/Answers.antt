use Rattle.std.proofs.Common.{arith}
use Rattle.class_table.specs.Members.{method_id}
use Rattle.call_graph.specs.Floods.{edge_to}
use Rattle.call_graph.proofs.Meeting.{more_none, more_targets}
use Rattle.call_graph.proofs.edges.meet_targets.Goals as goal

pub loop-edge-init : goal.loop-edge-init
loop-edge-init c = record { met = c.requires.met; more = more_none c.args.order.now.items }

pub loop-edge-preserved : goal.loop-edge-preserved
loop-edge-preserved c = record {
  met = c.in_ok-meet.ensures.met;
  more = more_targets c.args.order.now.items c.loop-edge.order.items c.meet.new.order.items c.args.edges.now c.loop-edge.edge-index (edge_to (method_id 0) 0 (method_id 0)) (omega arith) c.loop-edge.invariant.more c.in_ok-meet.ensures.more;
}
