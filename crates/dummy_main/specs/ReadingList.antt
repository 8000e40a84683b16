-- What the steps of reading a list come to. The private functions of `list` cite this; public contracts cite `Listing` alone.
use Rattle.std.specs.Prelude.{◌≡◌, ◌<◌, ◌⊎◌, ◌++◌, ℕ, List, [], ◌∷◌, length, map, Contains}
use Rattle.clean_base.specs.declared.fault.InputFault.TheVariants.{BadLine, DoubleComponent}
use Rattle.clean_base.specs.declared.fault.Stop.{Stop}
use Rattle.clean_base.specs.declared.fault.Stop.TheVariants.{Fault, OutOfMemory}
use Rattle.name_index.specs.Index.{IsIndex}
use Rattle.dummy_main.specs.declared.component.Component.{Component}
use Rattle.dummy_main.specs.declared.list.Listed.{Listed}
use Rattle.dummy_main.specs.declared.list.Refusal.{Refusal}
use Rattle.dummy_main.specs.declared.list.Refusal.TheVariants.{Bad, Double, Memory}
use Rattle.dummy_main.specs.declared.entry.Said.{Said}
use Rattle.dummy_main.specs.declared.entry.Said.TheVariants.{Nothing, Names, Other}
use Rattle.list_lines.specs.Lines.{IsPassedOver}
use Rattle.dummy_main.specs.Listing.{most_components, Gives, name_of, IsBad, IsDouble}

abbrev pub Says : List ℕ → Said → Type 0
Says line Nothing = IsPassedOver line
Says line (Names c) = Gives line c
Says line Other = (IsPassedOver line → ⊥) × ((c : Component) → Gives line c → ⊥)

-- the index is that of the components' names
abbrev pub IsIndexed : Listed → Type 0
IsIndexed l = IsIndex (map name_of l.components.items) l.names

-- a component may come behind those
pub record MayFollow (cs : List Component) (c : Component) : Type 0 where
  pub few : length cs < most_components
  pub new : Contains (map name_of cs) c.name → ⊥

-- a line makes a list of components longer by its component, or leaves it as it is
abbrev pub Adds : List ℕ → List Component → List Component → Type 0
Adds line old new = (IsPassedOver line × (new ≡ old)) ⊎ ((c : Component) × Gives line c × MayFollow old c × (new ≡ old ++ c ∷ []))

abbrev pub RefusesLine : List Component → List ℕ → Refusal → Type 0
RefusesLine cs line Bad = IsBad cs line
RefusesLine cs line Double = IsDouble cs line
RefusesLine cs line Memory = Unit {0}

-- how a refusal of that line of the file stops the reading
abbrev pub stop_of : Refusal → ℕ → ℕ → Stop
stop_of Bad file line = Fault (BadLine file line)
stop_of Double file line = Fault (DoubleComponent file line)
stop_of Memory file line = OutOfMemory
