use Rattle.call_graph.proofs.Before.{graph_of}
use Rattle.call_graph.proofs.Only.{graph_once}
use Rattle.call_graph.proofs.edges.graph.Goals as goal

pub returns-clause-graph : goal.returns-clause-graph
returns-clause-graph c =
    graph_of c.args.table.now c.args.lists.now c.args.root c.in_ok-flooded.flooded (record { calls = c.from_vec.result; reached = c.from_vec-2.result }) c.edges_in_order.result.items c.into_vec.result.items c.in_order.result.items c.into_vec-2.result.items
    c.from_vec.ensures c.from_vec-2.ensures c.into_vec.ensures c.into_vec-2.ensures c.in_ok-flooded.ensures.reached c.in_ok-flooded.ensures.calls c.edges_in_order.ensures.ascending c.edges_in_order.ensures.same c.in_order.ensures.ascending c.in_order.ensures.same

pub returns-clause-only : goal.returns-clause-only
returns-clause-only c = λ other also. graph_once c.args.table.now c.args.lists.now c.args.root (record { calls = c.from_vec.result; reached = c.from_vec-2.result }) other
    (graph_of c.args.table.now c.args.lists.now c.args.root c.in_ok-flooded.flooded (record { calls = c.from_vec.result; reached = c.from_vec-2.result }) c.edges_in_order.result.items c.into_vec.result.items c.in_order.result.items c.into_vec-2.result.items
    c.from_vec.ensures c.from_vec-2.ensures c.into_vec.ensures c.into_vec-2.ensures c.in_ok-flooded.ensures.reached c.in_ok-flooded.ensures.calls c.edges_in_order.ensures.ascending c.edges_in_order.ensures.same c.in_order.ensures.ascending c.in_order.ensures.same)
    also
