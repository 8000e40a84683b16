use Rattle.std.proofs.Common.{rules}
use Rattle.call_graph.specs.contracts.edges.CallEdgeOrd.TheImpl.Laws as order
use Rattle.call_graph.specs.contracts.edges.CallEdgeEq.TheImpl.Laws as same
use Rattle.call_graph.proofs.Ordered.{once_sorted, once_same}
use Rattle.call_graph.proofs.edges.edges_in_order.Goals as goal

pub returns-clause-ascending : goal.returns-clause-ascending
returns-clause-ascending c = once_sorted _ order.total-law _ order.matches_eq-law same.laws-law (λ x y h. search rules) c.args.edges.items c.sort_unstable.new.self.items c.dedup.new.self.items c.sort_unstable.ensures.permutation c.sort_unstable.ensures.sorted c.dedup.ensures.filtered

pub returns-clause-same : goal.returns-clause-same
returns-clause-same c = once_same _ order.total-law _ order.matches_eq-law same.laws-law (λ x y h. search rules) c.args.edges.items c.sort_unstable.new.self.items c.dedup.new.self.items c.sort_unstable.ensures.permutation c.sort_unstable.ensures.sorted c.dedup.ensures.filtered
