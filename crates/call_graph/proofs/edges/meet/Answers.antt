use Rattle.std.proofs.Common.{List, set, true, sym, subst}
use Rattle.clean_base.specs.declared.ids.MethodId.{MethodId}
use Rattle.call_graph.specs.Floods.{IsMet, IsMore}
use Rattle.call_graph.proofs.Meeting.{met_again, met_more, met_now}
use Rattle.call_graph.proofs.edges.meet.Goals as goal

pub returns-then-met-m-clause-more : goal.returns-then-met-m-clause-more
returns-then-met-m-clause-more c = met_again c.args.order.now.items c.args.met.now c.args.m c.requires.met c.if-met-m.true

pub returns-clause-met : goal.returns-clause-met
returns-clause-met c =
    subst (λ (ms : List MethodId). IsMet ms (set c.args.met.now c.args.m.0 true)) (sym c.in_ok-push.ensures.items)
    (met_now c.args.order.now.items c.args.met.now c.args.m c.requires.within c.requires.met c.if-met-m.false)

pub returns-clause-more : goal.returns-clause-more
returns-clause-more c = subst (IsMore _ c.args.order.now.items) (sym c.in_ok-push.ensures.items) (met_more c.args.order.now.items c.args.m)
