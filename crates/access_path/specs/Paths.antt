-- What is said of taints, and what rules make of them (docs/FLOW-RULES.md, "Access paths").
use Rattle.std.specs.Prelude.{◌≡◌, ◌≤◌, ℕ, List, [], ◌∷◌, length, drop, take, slice_get, Some}
use Rattle.clean_base.specs.declared.ids.FieldId.{FieldId}
use Rattle.clean_base.specs.declared.ids.LocalId.{LocalId}
use Rattle.clean_base.specs.declared.ids.StmtId.{StmtId}
use Rattle.access_path.specs.declared.fact.Base.{Base}
use Rattle.access_path.specs.declared.fact.Base.TheVariants.{Local}
use Rattle.access_path.specs.declared.fact.Taint.{Taint}
use Rattle.access_path.specs.declared.fact.Wake.{Wake}
use Rattle.access_path.specs.declared.fact.Wake.TheVariants.{Active, Asleep}

-- The two fields that no class declares

-- the elements of an array
abbrev pub elements : FieldId
elements = record { 0 = 0 }

-- what lies somewhere inside an object
abbrev pub inside : FieldId
inside = record { 0 = 1 }

-- What a taint is

-- its path begins at this local
abbrev pub IsOf : Taint → LocalId → Type 0
IsOf t x = t.base ≡ Local x

abbrev pub IsActive : Taint → Type 0
IsActive t = t.wake ≡ Active

abbrev pub IsAsleep : Taint → Type 0
IsAsleep t = (at : StmtId) × (t.wake ≡ Asleep at)

-- its path is a base alone
abbrev pub IsBare : Taint → Type 0
IsBare t = t.fields ≡ []

abbrev pub HasField : Taint → Type 0
HasField t = 1 ≤ length t.fields

-- its path begins with this base and this field
abbrev pub StartsWith : Taint → Base → FieldId → Type 0
StartsWith t base field = (t.base ≡ base) × (slice_get t.fields 0 ≡ Some field)

-- its path goes on below this field of the local
abbrev pub IsBelow : Taint → LocalId → FieldId → Type 0
IsBelow t x field = StartsWith t (Local x) field × (2 ≤ length t.fields)

-- What becomes of a taint

-- the same fields followed from another base
abbrev pub rebase : Base → Taint → Taint
rebase base t = record t { base = base }

-- without its first field
abbrev pub strip : Taint → Taint
strip t = record t { fields = drop 1 t.fields }

-- with a field before the others, cut to its first k fields
abbrev pub prepend : ℕ → FieldId → Taint → Taint
prepend k field t = record t { fields = take k (field ∷ t.fields) }

-- with these fields instead of its own
abbrev pub with_fields : List FieldId → Taint → Taint
with_fields fields t = record t { fields = fields }

abbrev pub activate : Taint → Taint
activate t = record t { wake = Active }

-- an active taint waits for this statement from now on; an inactive one waits for its own
abbrev pub asleep_from : StmtId → Wake → Wake
asleep_from at Active = Asleep at
asleep_from at (Asleep own) = Asleep own

abbrev pub sleep : StmtId → Taint → Taint
sleep at t = record t { wake = asleep_from at t.wake }
