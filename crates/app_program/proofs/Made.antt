-- What was gathered makes the program of the classes, and why there is none.
use Rattle.std.proofs.Common.{◌≡◌, ◌+◌, ◌++◌, List, length, ap, ◌∙◌}
use Rattle.clean_base.specs.declared.fault.InputFault.{InputFault}
use Rattle.clean_base.specs.declared.fault.Stop.{Stop}
use Rattle.clean_base.specs.declared.fault.Stop.TheVariants.{Fault, OutOfMemory}
use Rattle.clean_base.specs.declared.ids.MethodId.{MethodId}
use Rattle.jimple_tree.specs.declared.tree.Class.{Class}
use Rattle.jimple_tree.specs.declared.tree.FieldSig.{FieldSig}
use Rattle.source_sink.specs.declared.line.Line.{Line}
use Rattle.field_table.specs.Fields.{declared_sigs}
use Rattle.field_table.specs.Numbers.{all_sigs, field_sigs, own_fields, Fields, AreFields, IsFieldFault}
use Rattle.field_table.specs.Numbers as numbers
use Rattle.program_code.specs.Parts.{app_of}
use Rattle.program_code.specs.declared.parts.Parts.{Parts}
use Rattle.app_program.specs.Entry.{IsOnlyRootFault, IsRoot, IsRootFault, RootRefused}
use Rattle.app_program.specs.Faults.{IsFault, IsOnly, Refused, closed, fields}
use Rattle.app_program.specs.Gathered.{AreGathered}
use Rattle.app_program.specs.Program.{IsProgram}
use Rattle.app_program.specs.declared.entry.Entry.{Entry}
use Rattle.app_program.proofs.Entered.{no_root_fault}
use Rattle.app_program.proofs.Gathers.{gathered_methods, gathered_stmts}

all_are : (cs : List Class) (all : Fields) → AreFields cs all → all_sigs all ≡ field_sigs cs
all_are cs all are = ap (λ (xs : List FieldSig). xs ++ all.named) are.all_declared ∙ ap (λ (xs : List FieldSig). declared_sigs cs ++ xs) are.all_named

module _ (cs : List Class) (entry : Entry) where
  pub made : (lines : List Line) (p : Parts) → AreGathered cs lines p → IsRoot cs entry p.root → IsProgram cs lines entry (app_of p)
  made lines p are root = record {
    classes = are.table;
    fields = all_are cs p.fields are.fields;
    numbered = ap (λ (xs : List FieldSig). own_fields + length xs) (all_are cs p.fields are.fields);
    root = root;
    methods = gathered_methods cs lines p are;
    stmts = gathered_stmts cs lines p are;
  }

  -- they can't be entered there
  pub closed_refused : (stop : Stop) → RootRefused cs entry stop → Refused cs entry stop
  closed_refused (Fault f) is = closed f is
  closed_refused OutOfMemory is = tt

  only_closed_fault : (f : InputFault) → IsRootFault cs entry f → ((other : InputFault) → IsRootFault cs entry other → other ≡ f) → (other : InputFault) → IsFault cs entry other → other ≡ f
  only_closed_fault f is one other (closed g also) = one g also
  only_closed_fault f is one other (fields m root g also) = absurd (no_root_fault cs entry m root f is)

  pub only_closed : (stop : Stop) → RootRefused cs entry stop → IsOnlyRootFault cs entry stop → IsOnly cs entry stop
  only_closed (Fault f) is one = only_closed_fault f is one
  only_closed OutOfMemory is one = tt

  module _ (m : MethodId) (root : IsRoot cs entry m) where
    pub no_fault : ((f : InputFault) → IsFieldFault cs f → ⊥) → (f : InputFault) → IsFault cs entry f → ⊥
    no_fault few other (closed f is) = no_root_fault cs entry m root f is
    no_fault few other (fields n known f is) = few f is

    pub refused : (stop : Stop) → numbers.Refused cs stop → Refused cs entry stop
    refused (Fault f) is = fields m root f is
    refused OutOfMemory is = tt

    only_fields : (f : InputFault) → numbers.IsOnly cs (Fault f) → (other : InputFault) → IsFault cs entry other → other ≡ f
    only_fields f one other (closed g is) = absurd (no_root_fault cs entry m root g is)
    only_fields f one other (fields n known g is) = one g is

    pub only : (stop : Stop) → numbers.IsOnly cs stop → IsOnly cs entry stop
    only (Fault f) one = only_fields f one
    only OutOfMemory one = tt
