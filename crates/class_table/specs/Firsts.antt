-- The first place of a list where something stands, and the methods that calls may come to there. The public contracts don't
-- cite this.
use Rattle.std.specs.Prelude.{◌≡◌, ℕ, List, [], ◌∷◌, length, Option, Some, None}
use Rattle.clean_base.specs.Lists.{At}
use Rattle.jimple_tree.specs.declared.tree.Class.{Class}
use Rattle.jimple_tree.specs.declared.tree.Method.{Method}
use Rattle.jimple_tree.specs.declared.tree.Sig.{Sig}
use Rattle.class_table.specs.Alongs.{first_some}
use Rattle.class_table.specs.Hierarchy.{class_names}
use Rattle.class_table.specs.Links.{name_at}
use Rattle.class_table.specs.Members.{StandsAt}
use Rattle.class_table.specs.Resolving.{HasCallable, IsSearch}
use Rattle.class_table.specs.declared.members.Place.{Place}

-- what stands at the first item where something does
pub data FirstOf {A X : Type 0} (Lacks : A → Type 0) (Has : A → X → Type 0) : List A → Option X → Type 0 where
  nowhere : FirstOf Lacks Has [] None
  here : {a : A} {xs : List A} {x : X} → Has a x → FirstOf Lacks Has (a ∷ xs) (Some x)
  later : {a : A} {xs : List A} {r : Option X} → Lacks a → FirstOf Lacks Has xs r → FirstOf Lacks Has (a ∷ xs) r

-- no class of this name has a method of the signature that may be called
abbrev pub LacksCallable : List Class → Sig → List ℕ → Type 0
LacksCallable cs sig name = (c : Class) (m : Method) → HasCallable cs sig name c m → ⊥

-- the one of the class of this name stands there
pub record HasCallableAt (cs : List Class) (sig : Sig) (name : List ℕ) (place : Place) : Type 0 where
  pub class : Class
  pub method : Method
  pub stands : StandsAt cs place class method
  pub callable : HasCallable cs sig name class method

-- the same of the class whose name has this number
abbrev pub LacksAt : List Class → Sig → ℕ → Type 0
LacksAt cs sig i = LacksCallable cs sig (name_at cs i)

abbrev pub HasAt : List Class → Sig → ℕ → Place → Type 0
HasAt cs sig i place = HasCallableAt cs sig (name_at cs i) place

-- the first of these numbers whose class has one
abbrev pub IsFirst : List Class → Sig → List ℕ → Option Place → Type 0
IsFirst cs sig numbers found = FirstOf (LacksAt cs sig) (HasAt cs sig) numbers found

-- for each name where its own class has it
pub record AreOwn (cs : List Class) (sig : Sig) (places : List (Option Place)) : Type 0 where
  pub count : length places ≡ length (class_names cs)
  pub each : (i : ℕ) (r : Option Place) → At places i r → IsFirst cs sig (i ∷ []) r

-- the first ones, and where there is none the others
pub record AreEither (first others places : List (Option Place)) : Type 0 where
  pub count : length places ≡ length first
  pub each : (i : ℕ) (x y r : Option Place) → At first i x → At others i y → At places i r → r ≡ first_some (x ∷ y ∷ [])

-- for each name what stands first in the search for it
pub record AreFound (cs : List Class) (sig : Sig) (places : List (Option Place)) : Type 0 where
  pub count : length places ≡ length (class_names cs)
  pub each : (i : ℕ) (r : Option Place) → At places i r → (search : List (List ℕ)) × IsSearch cs (name_at cs i) search × FirstOf (LacksCallable cs sig) (HasCallableAt cs sig) search r
