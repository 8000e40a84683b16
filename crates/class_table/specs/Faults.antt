-- Which classes have a table, and the first fault of those that have none (docs/COMMANDS.md, "Refusals").
use Rattle.std.specs.Prelude.{◌≡◌, ◌<◌, ◌≤◌, ℕ, List, ◌∷◌, ◌++◌, length, Contains}
use Rattle.clean_base.specs.Limits.{most_classes, most_methods, most_stmts}
use Rattle.clean_base.specs.declared.fault.InputFault.{InputFault}
use Rattle.clean_base.specs.declared.fault.InputFault.TheVariants.{LimitClasses, DoubleClass, Cycle, LimitMethods, LimitStmts}
use Rattle.clean_base.specs.declared.fault.Stop.{Stop}
use Rattle.clean_base.specs.declared.fault.Stop.TheVariants.{Fault, OutOfMemory}
use Rattle.jimple_tree.specs.WellFormed.{AreDistinct}
use Rattle.jimple_tree.specs.declared.tree.Class.{Class}
use Rattle.class_table.specs.Hierarchy.{class_names, IsOwnSupertype}
use Rattle.class_table.specs.Methods.{all_methods, stmts_in}

-- the classes in front of it have different names, and one of them has this one's
pub record IsFirstDouble (cs : List Class) (name : List ℕ) : Type 0 where
  pub before : List Class
  pub double : Class
  pub behind : List Class
  pub parts : cs ≡ before ++ double ∷ behind
  pub named : double.name ≡ name
  pub distinct : AreDistinct (λ (c : Class). c.name) before
  pub again : (c : Class) × Contains before c × (c.name ≡ name)

-- the class stands above itself, and none in front of it does
pub record IsFirstCycle (cs : List Class) (name : List ℕ) : Type 0 where
  pub before : List Class
  pub cyclic : Class
  pub behind : List Class
  pub parts : cs ≡ before ++ cyclic ∷ behind
  pub named : cyclic.name ≡ name
  pub on : IsOwnSupertype cs name
  pub first : (c : Class) → Contains before c → IsOwnSupertype cs c.name → ⊥

abbrev pub HasFewNames : List Class → Type 0
HasFewNames cs = length (class_names cs) ≤ most_classes

abbrev pub HaveNames : List Class → Type 0
HaveNames cs = AreDistinct (λ (c : Class). c.name) cs

abbrev pub IsAcyclic : List Class → Type 0
IsAcyclic cs = (name : List ℕ) → IsOwnSupertype cs name → ⊥

-- classes without a fault
pub record IsTable (cs : List Class) : Type 0 where
  pub few : HasFewNames cs
  pub names : HaveNames cs
  pub acyclic : IsAcyclic cs
  pub methods : length (all_methods cs) ≤ most_methods
  pub stmts : length (stmts_in cs) ≤ most_stmts

-- the first fault of the classes, in this order
pub data IsFault (cs : List Class) : InputFault → Type 0 where
  classes : most_classes < length (class_names cs) → IsFault cs LimitClasses
  double : {name : List ℕ} → HasFewNames cs → IsFirstDouble cs name → IsFault cs (DoubleClass name)
  cycle : {name : List ℕ} → HasFewNames cs → HaveNames cs → IsFirstCycle cs name → IsFault cs (Cycle name)
  methods : HasFewNames cs → HaveNames cs → IsAcyclic cs → most_methods < length (all_methods cs) → IsFault cs LimitMethods
  stmts : HasFewNames cs → HaveNames cs → IsAcyclic cs → length (all_methods cs) ≤ most_methods → most_stmts < length (stmts_in cs) → IsFault cs LimitStmts

-- why there is no table
abbrev pub Refused : List Class → Stop → Type 0
Refused cs (Fault f) = IsFault cs f
Refused cs OutOfMemory = Unit {0}

-- and no other fault is theirs
abbrev pub IsOnly : List Class → Stop → Type 0
IsOnly cs (Fault f) = (other : InputFault) → IsFault cs other → other ≡ f
IsOnly cs OutOfMemory = Unit {0}
