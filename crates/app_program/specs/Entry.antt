-- Where a program is entered (docs/COMMANDS.md, "Words").
use Rattle.std.specs.Prelude.{◌≡◌, ℕ, List, [], ◌∷◌, All}
use Rattle.clean_base.specs.declared.fault.InputFault.{InputFault}
use Rattle.clean_base.specs.declared.fault.InputFault.TheVariants.{ComponentMissing, EntryMissing}
use Rattle.clean_base.specs.declared.fault.Stop.{Stop}
use Rattle.clean_base.specs.declared.fault.Stop.TheVariants.{Fault, OutOfMemory}
use Rattle.clean_base.specs.declared.ids.MethodId.{MethodId}
use Rattle.jimple_tree.specs.declared.tree.Class.{Class}
use Rattle.jimple_tree.specs.declared.tree.Sig.{Sig}
use Rattle.class_table.specs.Concrete.{IsConcrete}
use Rattle.class_table.specs.Methods.{IsDeclared}
use Rattle.dummy_main.specs.Layout.{main_sig}
use Rattle.dummy_main.specs.declared.component.Component.{Component}
use Rattle.app_program.specs.declared.entry.Entry.{Entry}
use Rattle.app_program.specs.declared.entry.Entry.TheVariants.{Method, Components}

-- the signature of the method where it begins
abbrev pub start_of : Entry → Sig
start_of (Method sig) = sig
start_of (Components components) = main_sig

-- the components that it names
abbrev pub components_of : Entry → List Component
components_of (Method sig) = []
components_of (Components components) = components

-- a component is a concrete class of these
abbrev pub IsKnown : List Class → Component → Type 0
IsKnown cs component = IsConcrete cs component.name

abbrev pub AreKnown : List Class → List Component → Type 0
AreKnown cs components = All (IsKnown cs) components

-- the method where the classes are entered: its signature is the entry's, and all components are known
pub record IsRoot (cs : List Class) (entry : Entry) (m : MethodId) : Type 0 where
  pub known : AreKnown cs (components_of entry)
  pub declared : IsDeclared cs (start_of entry) m

-- the first component that isn't known has this name
pub data IsFirstUnknown (cs : List Class) : List Component → List ℕ → Type 0 where
  here : {component : Component} {behind : List Component} {name : List ℕ} → (IsKnown cs component → ⊥) → component.name ≡ name → IsFirstUnknown cs (component ∷ behind) name
  later : {component : Component} {behind : List Component} {name : List ℕ} → IsKnown cs component → IsFirstUnknown cs behind name → IsFirstUnknown cs (component ∷ behind) name

-- why there is no such method, the first that is so: a component isn't known, or no method with a body is declared under
-- the signature
pub data IsRootFault (cs : List Class) (entry : Entry) : InputFault → Type 0 where
  component : (name : List ℕ) → IsFirstUnknown cs (components_of entry) name → IsRootFault cs entry (ComponentMissing name)
  method : AreKnown cs (components_of entry) → ((m : MethodId) → IsDeclared cs (start_of entry) m → ⊥) → IsRootFault cs entry EntryMissing

-- the name is told, or memory ran out. The public contracts don't cite this
abbrev pub IsUnknown : List ℕ → Stop → Type 0
IsUnknown name (Fault f) = f ≡ ComponentMissing name
IsUnknown name OutOfMemory = Unit {0}

-- a component isn't known, or memory ran out
abbrev pub UnknownRefused : List Class → List Component → Stop → Type 0
UnknownRefused cs components (Fault f) = (name : List ℕ) × IsFirstUnknown cs components name × (f ≡ ComponentMissing name)
UnknownRefused cs components OutOfMemory = Unit {0}

-- no method with a body is declared under the signature, or memory ran out
abbrev pub Undeclared : List Class → Sig → Stop → Type 0
Undeclared cs sig (Fault f) = (f ≡ EntryMissing) × ((m : MethodId) → IsDeclared cs sig m → ⊥)
Undeclared cs sig OutOfMemory = Unit {0}

-- that is told, or memory ran out
abbrev pub RootRefused : List Class → Entry → Stop → Type 0
RootRefused cs entry (Fault f) = IsRootFault cs entry f
RootRefused cs entry OutOfMemory = Unit {0}

-- and no other fault is theirs
abbrev pub IsOnlyRootFault : List Class → Entry → Stop → Type 0
IsOnlyRootFault cs entry (Fault f) = (other : InputFault) → IsRootFault cs entry other → other ≡ f
IsOnlyRootFault cs entry OutOfMemory = Unit {0}
