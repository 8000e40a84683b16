-- Why classes and an entry have no program (docs/COMMANDS.md, "Refusals").
use Rattle.std.specs.Prelude.{◌≡◌, List}
use Rattle.clean_base.specs.declared.fault.InputFault.{InputFault}
use Rattle.clean_base.specs.declared.fault.Stop.{Stop}
use Rattle.clean_base.specs.declared.fault.Stop.TheVariants.{Fault, OutOfMemory}
use Rattle.clean_base.specs.declared.ids.MethodId.{MethodId}
use Rattle.jimple_tree.specs.declared.tree.Class.{Class}
use Rattle.field_table.specs.Numbers.{IsFieldFault}
use Rattle.app_program.specs.Entry.{IsRoot, IsRootFault}
use Rattle.app_program.specs.declared.entry.Entry.{Entry}

-- the first that is so: they can't be entered there, or there are too many fields
pub data IsFault (cs : List Class) (entry : Entry) : InputFault → Type 0 where
  closed : (f : InputFault) → IsRootFault cs entry f → IsFault cs entry f
  fields : (m : MethodId) → IsRoot cs entry m → (f : InputFault) → IsFieldFault cs f → IsFault cs entry f

-- that is told, or memory ran out
abbrev pub Refused : List Class → Entry → Stop → Type 0
Refused cs entry (Fault f) = IsFault cs entry f
Refused cs entry OutOfMemory = Unit {0}

-- and no other fault is theirs
abbrev pub IsOnly : List Class → Entry → Stop → Type 0
IsOnly cs entry (Fault f) = (other : InputFault) → IsFault cs entry other → other ≡ f
IsOnly cs entry OutOfMemory = Unit {0}
