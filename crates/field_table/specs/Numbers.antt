-- The numbers of fields (docs/FLOW-RULES.md, "Fields").
use Rattle.std.specs.Prelude.{◌≡◌, ◌≤◌, ◌<◌, ◌+◌, ◌-◌, ℕ, List, ◌++◌, length, filter, is_none}
use Rattle.clean_base.specs.Limits.{most_fields}
use Rattle.clean_base.specs.Lists.{At}
use Rattle.clean_base.specs.declared.fault.InputFault.{InputFault}
use Rattle.clean_base.specs.declared.fault.InputFault.TheVariants.{LimitFields}
use Rattle.clean_base.specs.declared.fault.Stop.{Stop}
use Rattle.clean_base.specs.declared.fault.Stop.TheVariants.{Fault, OutOfMemory}
use Rattle.clean_base.specs.declared.ids.FieldId.{FieldId}
use Rattle.field_table.specs.Chains.{declarer, Means}
use Rattle.field_table.specs.Fields.{declared_sigs, references, same_sig}
use Rattle.jimple_tree.specs.declared.tree.Class.{Class}
use Rattle.jimple_tree.specs.declared.tree.FieldSig.{FieldSig}
use Rattle.reach_rows.specs.Walks.{each_once}

-- those of some references that mean themselves, since no class declares them
abbrev pub undeclared : List Class → List FieldSig → List FieldSig
undeclared cs refs = filter (λ (sig : FieldSig). is_none (declarer cs sig)) refs

-- the fields that references alone name, each once
abbrev pub named_sigs : List Class → List FieldSig
named_sigs cs = each_once same_sig (undeclared cs (references cs))

-- the fields of a program in the order of their numbers: those that classes declare, and then those that references alone
-- name
abbrev pub field_sigs : List Class → List FieldSig
field_sigs cs = declared_sigs cs ++ named_sigs cs

-- the elements of arrays and `inside` come first
abbrev pub own_fields : ℕ
own_fields = 2

abbrev pub HasFewFields : List Class → Type 0
HasFewFields cs = own_fields + length (field_sigs cs) ≤ most_fields

-- the field of these with this number
abbrev pub IsField : List FieldSig → FieldId → FieldSig → Type 0
IsField sigs f sig = (own_fields ≤ f.0) × At sigs (f.0 - own_fields) sig

-- the number of what the reference means
abbrev pub IsFieldNumber : List Class → FieldSig → FieldId → Type 0
IsFieldNumber cs sig f = (own : FieldSig) × Means cs sig own × IsField (field_sigs cs) f own

-- no reference has two
abbrev pub HaveOneNumber : List Class → Type 0
HaveOneNumber cs = (sig : FieldSig) (f g : FieldId) → IsFieldNumber cs sig f → IsFieldNumber cs sig g → f ≡ g

-- the fields as contracts see them: those that classes declare, and those that references alone name
pub record Fields : Type 0 where
  pub declared : List FieldSig
  pub named : List FieldSig

abbrev pub all_sigs : Fields → List FieldSig
all_sigs fields = fields.declared ++ fields.named

-- they are the fields of these classes
pub record AreFields (cs : List Class) (fields : Fields) : Type 0 where
  pub all_declared : fields.declared ≡ declared_sigs cs
  pub all_named : fields.named ≡ named_sigs cs

-- the one fault of fields
pub data IsFieldFault (cs : List Class) : InputFault → Type 0 where
  fields : most_fields < own_fields + length (field_sigs cs) → IsFieldFault cs LimitFields

-- why there is no table of fields
abbrev pub Refused : List Class → Stop → Type 0
Refused cs (Fault f) = IsFieldFault cs f
Refused cs OutOfMemory = Unit {0}

-- and no other fault is theirs
abbrev pub IsOnly : List Class → Stop → Type 0
IsOnly cs (Fault f) = (other : InputFault) → IsFieldFault cs other → other ≡ f
IsOnly cs OutOfMemory = Unit {0}
