use Rattle.std.proofs.Common.{rules}
use Rattle.clean_base.specs.contracts.ids.MethodIdOrd.TheImpl.Laws as order
use Rattle.clean_base.specs.contracts.ids.MethodIdEq.TheImpl.Laws as same
use Rattle.call_graph.proofs.Before.{numbers_rise}
use Rattle.call_graph.proofs.Ordered.{once_sorted, once_same}
use Rattle.call_graph.proofs.calls.in_order.Goals as goal

pub returns-clause-ascending : goal.returns-clause-ascending
returns-clause-ascending c = numbers_rise c.dedup.new.self.items (once_sorted _ order.total-law _ order.matches_eq-law same.laws-law (λ x y h. search rules) c.args.methods.items c.sort_unstable.new.self.items c.dedup.new.self.items c.sort_unstable.ensures.permutation c.sort_unstable.ensures.sorted c.dedup.ensures.filtered)

pub returns-clause-same : goal.returns-clause-same
returns-clause-same c = once_same _ order.total-law _ order.matches_eq-law same.laws-law (λ x y h. search rules) c.args.methods.items c.sort_unstable.new.self.items c.dedup.new.self.items c.sort_unstable.ensures.permutation c.sort_unstable.ensures.sorted c.dedup.ensures.filtered
