-- The events that orders are, for the methods of classes (docs/FORMATS.md, "Schedules").
use Rattle.std.specs.Prelude.{◌≡◌, ◌⊎◌, List, [], ◌∷◌, ◌++◌}
use Rattle.clean_base.specs.declared.ids.MethodId.{MethodId}
use Rattle.class_table.specs.Methods.{IsDeclared}
use Rattle.ifds_model.specs.declared.event.Event.{Event}
use Rattle.ifds_model.specs.declared.event.Event.TheVariants as event
use Rattle.jimple_tree.specs.declared.tree.Class.{Class}
use Rattle.jimple_tree.specs.declared.tree.Sig.{Sig}
use Rattle.event_schedule.specs.declared.order.Order.{Order}
use Rattle.event_schedule.specs.declared.order.Order.TheVariants.{Take, Commit, Back, Retire, Sweep}

-- retire the method with a body that is declared under this signature, if there is one
abbrev pub Retires : List Class → Sig → List Event → Type 0
Retires classes sig events =
    ((method : MethodId) × IsDeclared classes sig method × (events ≡ event.Retire method ∷ []))
    ⊎ (((method : MethodId) → IsDeclared classes sig method → ⊥) × (events ≡ []))

-- the order is this event, or none
abbrev pub Orders : List Class → Order → List Event → Type 0
Orders classes (Take worker place) events = events ≡ event.Take worker place ∷ []
Orders classes (Commit worker) events = events ≡ event.Commit worker ∷ []
Orders classes (Back worker) events = events ≡ event.Back worker ∷ []
Orders classes (Retire sig) events = Retires classes sig events
Orders classes Sweep events = events ≡ event.Sweep ∷ []

-- the events of the orders, in their order
abbrev pub AreEvents : List Class → List Order → List Event → Type 0
AreEvents classes [] events = events ≡ []
AreEvents classes (order ∷ orders) events =
    (first : List Event) × (rest : List Event) × Orders classes order first × AreEvents classes orders rest × (events ≡ first ++ rest)
