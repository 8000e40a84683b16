-- What the lists say of a signature, and what it comes to, in classes by their numbers. The public contracts don't cite this.
use Rattle.std.specs.Prelude.{ℕ, Bool, true, List, Option, Some}
use Rattle.clean_base.specs.Lists.{At}
use Rattle.clean_base.specs.declared.ids.ClassId.{ClassId}
use Rattle.clean_base.specs.declared.ids.MethodId.{MethodId}
use Rattle.jimple_tree.specs.declared.tree.Class.{Class}
use Rattle.jimple_tree.specs.declared.tree.Sig.{Sig}
use Rattle.source_sink.specs.Lists.{Says}
use Rattle.source_sink.specs.declared.line.Line.{Line}
use Rattle.class_table.specs.Concrete.{IsConcrete}
use Rattle.class_table.specs.Hierarchy.{class_names}
use Rattle.class_table.specs.Links.{name_at}
use Rattle.class_table.specs.Resolving.{Resolves}

-- some line says so of the signature in one of the marked classes
abbrev pub SaysIn : List Class → List Line → List Bool → Sig → (Line → Bool) → Type 0
SaysIn cs lines marks sig does = (i : ℕ) × At marks i true × Says lines (record sig { class = name_at cs i }) does

-- what the signature comes to on the class with this number
abbrev pub ResolvesAt : List Class → ClassId → Sig → MethodId → Type 0
ResolvesAt cs class sig n = (name : List ℕ) × At (class_names cs) class.0 name × Resolves cs name sig n

-- and on one of the marked classes, which is concrete
abbrev pub ResolvesIn : List Class → List Bool → Sig → MethodId → Type 0
ResolvesIn cs marks sig n = (i : ℕ) × At marks i true × IsConcrete cs (name_at cs i) × Resolves cs (name_at cs i) sig n

-- the marked class with this number is concrete, and this is its method among these
pub record IsChosen (cs : List Class) (marks : List Bool) (methods : List (Option MethodId)) (i : ℕ) (n : MethodId) : Type 0 where
  pub marked : At marks i true
  pub concrete : IsConcrete cs (name_at cs i)
  pub method : At methods i (Some n)
