use Rattle.solver_core.proofs.Ordered.{once_sorted, once_distinct, once_same}
use Rattle.solver_core.proofs.marks.in_order.Goals as goal

pub returns-clause-sorted : goal.returns-clause-sorted
returns-clause-sorted g c = once_sorted g.T.Ord.cmp g.met.T.Ord.total g.T.PartialEq.eq g.met.T.Ord.matches_eq g.met.T.Eq.laws g.met.T.Plain.exact c.args.items.items c.sort.new.self.items c.dedup.new.self.items c.in_ok-sort.ensures.permutation c.in_ok-sort.ensures.sorted c.dedup.ensures.filtered

pub returns-clause-distinct : goal.returns-clause-distinct
returns-clause-distinct g c = once_distinct g.T.Ord.cmp g.met.T.Ord.total g.T.PartialEq.eq g.met.T.Ord.matches_eq g.met.T.Eq.laws g.met.T.Plain.exact c.args.items.items c.sort.new.self.items c.dedup.new.self.items c.in_ok-sort.ensures.permutation c.in_ok-sort.ensures.sorted c.dedup.ensures.filtered

pub returns-clause-same : goal.returns-clause-same
returns-clause-same g c = once_same g.T.Ord.cmp g.met.T.Ord.total g.T.PartialEq.eq g.met.T.Ord.matches_eq g.met.T.Eq.laws g.met.T.Plain.exact c.args.items.items c.sort.new.self.items c.dedup.new.self.items c.in_ok-sort.ensures.permutation c.in_ok-sort.ensures.sorted c.dedup.ensures.filtered
