-- What a table keeps of the methods of its classes. The public contracts don't cite this.
use Rattle.std.specs.Prelude.{◌≡◌, ◌<◌, ◌+◌, ℕ, false, List, length, map, take, flat_map, is_some, Option, Some, None}
use Rattle.clean_base.specs.Lists.{At}
use Rattle.clean_base.specs.declared.ids.MethodId.{MethodId}
use Rattle.jimple_tree.specs.declared.tree.Class.{Class}
use Rattle.jimple_tree.specs.declared.tree.Method.{Method}
use Rattle.name_index.specs.Index.{IsIndex}
use Rattle.class_table.specs.Index.{name_of}
use Rattle.class_table.specs.Methods.{all_methods, IsNumber}
use Rattle.class_table.specs.declared.members.ClassMembers.{ClassMembers}
use Rattle.class_table.specs.declared.members.Holders.{Holders}
use Rattle.class_table.specs.declared.members.Members.{Members}
use Rattle.class_table.specs.declared.members.Place.{Place}

abbrev pub method_id : ℕ → MethodId
method_id n = record { 0 = n }

-- the number of a class's method, which it has exactly where it has a body
abbrev pub IsNumbered : List Class → Class → Method → Option MethodId → Type 0
IsNumbered cs c m None = is_some m.body ≡ false
IsNumbered cs c m (Some n) = IsNumber cs n c m

-- such a number for each method of the class
pub record AreNumbers (cs : List Class) (c : Class) (numbers : List (Option MethodId)) : Type 0 where
  pub count : length numbers ≡ length c.methods
  pub each : (k : ℕ) (m : Method) (number : Option MethodId) → At c.methods k m → At numbers k number → IsNumbered cs c m number

pub record IsMember (cs : List Class) (c : Class) (x : ClassMembers) : Type 0 where
  pub index : IsIndex (map name_of c.methods) x.index
  pub numbers : AreNumbers cs c x.numbers.items

-- for each of the classes what belongs to it
pub record AreOwn (cs : List Class) (count : ℕ) (owns : List ClassMembers) : Type 0 where
  pub counted : length owns ≡ count
  pub each : (p : ℕ) (c : Class) (own : ClassMembers) → At cs p c → At owns p own → IsMember cs c own

-- the method of this class stands there
abbrev pub StandsAt : List Class → Place → Class → Method → Type 0
StandsAt cs place c m = At cs place.class c × At c.methods place.method m

-- where each of so many methods with a body stands
pub record ArePlaces (cs : List Class) (count : ℕ) (places : List Place) : Type 0 where
  pub counted : length places ≡ count
  pub each : (n : ℕ) (place : Place) → At places n place → (c : Class) × (m : Method) × StandsAt cs place c m × At (all_methods cs) n (c, m)

-- the names of all methods, one class behind the other
abbrev pub method_names : List Class → List (List ℕ)
method_names cs = flat_map (λ (c : Class). map name_of c.methods) cs

-- the index of the first so many of these names, and for each the place of its class
pub record AreHolders (cs : List Class) (count : ℕ) (h : Holders) : Type 0 where
  pub index : IsIndex (take count (method_names cs)) h.names
  pub counted : length h.owners.items ≡ count
  pub owners : (k at : ℕ) → At h.owners.items k at → (c : Class) × (i : ℕ) × At cs at c × (i < length c.methods) × (k ≡ length (method_names (take at cs)) + i)

pub record AreMembers (cs : List Class) (members : Members) : Type 0 where
  pub owns : AreOwn cs (length cs) members.classes.items
  pub places : ArePlaces cs (length (all_methods cs)) members.places.items
  pub holders : AreHolders cs (length (method_names cs)) members.holders

-- some class has a number at this place
abbrev pub HasPlace : Members → Place → Type 0
HasPlace members place = (own : ClassMembers) × At members.classes.items place.class own × (place.method < length own.numbers.items)

-- which is this
abbrev pub IsNumberAt : Members → Place → Option MethodId → Type 0
IsNumberAt members place number = (own : ClassMembers) → At members.classes.items place.class own → At own.numbers.items place.method number
