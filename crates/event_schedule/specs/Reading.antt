-- What the steps of reading a schedule come to. Private functions cite this; public contracts cite `Schedules` alone.
use Rattle.std.specs.Prelude.{◌≡◌, ◌⊎◌, ℕ, List, [], ◌∷◌, ◌++◌}
use Rattle.clean_base.specs.declared.fault.InputFault.TheVariants.{BadLine}
use Rattle.clean_base.specs.declared.fault.Stop.{Stop}
use Rattle.clean_base.specs.declared.fault.Stop.TheVariants.{Fault, OutOfMemory}
use Rattle.list_lines.specs.Lines.{IsPassedOver}
use Rattle.event_schedule.specs.declared.order.Order.{Order}
use Rattle.event_schedule.specs.declared.schedule.Refusal.{Refusal}
use Rattle.event_schedule.specs.declared.schedule.Refusal.TheVariants.{Bad, Memory}
use Rattle.event_schedule.specs.Schedules.{Gives}

-- a line makes a list longer by what it gives, or leaves it as it is
abbrev pub Adds : List ℕ → List Order → List Order → Type 0
Adds line old new = (IsPassedOver line × (new ≡ old)) ⊎ ((order : Order) × Gives line order × (new ≡ old ++ order ∷ []))

abbrev pub RefusesLine : List ℕ → Refusal → Type 0
RefusesLine line Bad = (IsPassedOver line → ⊥) × ((order : Order) → Gives line order → ⊥)
RefusesLine line Memory = Unit {0}

-- how a refusal at that line of the file stops the reading
abbrev pub stop_of : Refusal → ℕ → ℕ → Stop
stop_of Bad file line = Fault (BadLine file line)
stop_of Memory file line = OutOfMemory
