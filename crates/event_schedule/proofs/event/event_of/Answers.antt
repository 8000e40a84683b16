use Rattle.std.proofs.Common.{◌≡◌, ◌∙◌, [], ◌∷◌, Option, Some, None, inl, inr, refl, subst, sym}
use Rattle.clean_base.specs.declared.ids.MethodId.{MethodId}
use Rattle.ifds_model.specs.declared.event.Event.TheVariants as event
use Rattle.event_schedule.specs.declared.order.Order.{Order}
use Rattle.event_schedule.specs.Ordered.{Orders}
use Rattle.event_schedule.proofs.event.event_of.Goals as goal

not_found : (found : Option MethodId) (method : MethodId) → found ≡ None → found ≡ Some method → ⊥
not_found found method none some = let e : None ≡ Some method = sym none ∙ some in cc

pub returns-in_default : goal.returns-in_default
returns-in_default c =
    subst (λ (o : Order). Orders c.args.classes.now o []) (sym c.in-Retire.is)
    (inr (λ method declared. not_found c.find_method.result method c.in_default.is ((c.find_method.ensures method).1 declared), refl))

pub returns-in-Some : goal.returns-in-Some
returns-in-Some c =
    subst (λ (o : Order). Orders c.args.classes.now o (event.Retire c.in-Some.method ∷ [])) (sym c.in-Retire.is)
    (inl (c.in-Some.method, (c.find_method.ensures c.in-Some.method).0 c.in-Some.is, refl))
