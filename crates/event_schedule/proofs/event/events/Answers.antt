use Rattle.std.proofs.Common.{◌∙◌, [], ◌∷◌, Option, ap, append-nil, option_to_list, subst, sym}
use Rattle.ifds_model.specs.declared.event.Event.{Event}
use Rattle.event_schedule.specs.Ordered.{Orders}
use Rattle.event_schedule.proofs.Lists.{next}
use Rattle.event_schedule.proofs.event.events.Goals as goal
use Rattle.event_schedule.proofs.event.events.Goals.{in-Some+in_ok-push, in_default}

pub loop-order-preserved : goal.loop-order-preserved
loop-order-preserved c =
    let classes = c.args.classes.now in
    let orders = c.args.orders.now in
    let i = c.loop-order.order-index in
    let order = c.order-item.result in
    let old = c.loop-order.events.items in
    let new = c.match-event_of.events.items in
    elim c.match-event_of.branch [
      | in-Some+in_ok-push w ↦ next classes orders i order old (w.in-Some.event ∷ []) new c.loop-order-test.true c.order-item.is c.loop-order.invariant
          (subst (λ (found : Option Event). Orders classes order (option_to_list found)) w.in-Some.is c.event_of.ensures)
          (ap (λ v. v.items) w.events-is ∙ w.in_ok-push.ensures.items)
      | in_default w ↦ next classes orders i order old [] new c.loop-order-test.true c.order-item.is c.loop-order.invariant
          (subst (λ (found : Option Event). Orders classes order (option_to_list found)) w.in_default.is c.event_of.ensures)
          (ap (λ v. v.items) w.events-is ∙ sym (append-nil old))
    ]
