-- The events of one order more.
use Rattle.std.proofs.Common.{◌≡◌, ◌<◌, ◌+◌, ℕ, zero, suc, List, [], ◌∷◌, ◌++◌, length, get_or, take, refl, sym, ap, ◌∙◌, subst, arith, append_assoc, append-nil}
use Rattle.ifds_model.specs.declared.event.Event.{Event}
use Rattle.jimple_tree.specs.declared.tree.Class.{Class}
use Rattle.event_schedule.specs.declared.order.Order.{Order}
use Rattle.event_schedule.specs.Ordered.{AreEvents, Orders}

one_more : (classes : List Class) (orders : List Order) (order : Order) (events more : List Event) → AreEvents classes orders events → Orders classes order more
    → AreEvents classes (orders ++ order ∷ []) (events ++ more)
one_more classes [] order events more are is = (more, [], is, refl, ap (λ (es : List Event). es ++ more) are ∙ sym (append-nil more))
one_more classes (o ∷ orders) order events more are is =
    (are.0, are.1 ++ more, are.2, one_more classes orders order are.1 more are.3 is, ap (λ (es : List Event). es ++ more) are.4 ∙ append_assoc are.0 are.1 more)

take_more : (orders : List Order) (i : ℕ) (order : Order) → i < length orders → order ≡ get_or orders i order → take (i + 1) orders ≡ take i orders ++ order ∷ []
take_more [] i order within is = absurd (omega (arith, within))
take_more (o ∷ orders) zero order within is = ap (λ (x : Order). x ∷ []) (sym is)
take_more (o ∷ orders) (suc i) order within is =
    let e : suc i + 1 ≡ suc (i + 1) = omega arith in
    rw e (ap (λ (os : List Order). o ∷ os) (take_more orders i order (omega (arith, within)) is))

pub next : (classes : List Class) (orders : List Order) (i : ℕ) (order : Order) (events more new : List Event) → i < length orders → order ≡ get_or orders i order
    → AreEvents classes (take i orders) events → Orders classes order more → new ≡ events ++ more → AreEvents classes (take (i + 1) orders) new
next classes orders i order events more new within is are gives e =
    subst (λ (os : List Order). AreEvents classes os new) (sym (take_more orders i order within is))
    (subst (AreEvents classes (take i orders ++ order ∷ [])) (sym e) (one_more classes (take i orders) order events more are gives))
