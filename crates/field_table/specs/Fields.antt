-- The fields that classes declare, and the references to fields in their statements (docs/FLOW-RULES.md, "Fields").
use Rattle.std.specs.Prelude.{ℕ, Bool, nat_eq, List, [], ◌∷◌, ◌++◌, map, flat_map, Contains}
use lib.Pointwise.{pointwise}
use mathlib.Core.Bool.{◌&&◌}
use Rattle.class_table.specs.Methods.{stmts_in}
use Rattle.jimple_tree.specs.declared.tree.Class.{Class}
use Rattle.jimple_tree.specs.declared.tree.Field.{Field}
use Rattle.jimple_tree.specs.declared.tree.FieldSig.{FieldSig}
use Rattle.jimple_tree.specs.declared.tree.JType.{JType}
use Rattle.jimple_tree.specs.declared.tree.Place.{Place}
use Rattle.jimple_tree.specs.declared.tree.Place.TheVariants as place
use Rattle.jimple_tree.specs.declared.tree.Rhs.{Rhs}
use Rattle.jimple_tree.specs.declared.tree.Rhs.TheVariants as rhs
use Rattle.jimple_tree.specs.declared.tree.Stmt.{Stmt}
use Rattle.jimple_tree.specs.declared.tree.Stmt.TheVariants as stmt

-- `<C: T f>`
abbrev pub signature : List ℕ → JType → List ℕ → FieldSig
signature class ty name = record { class = class; ty = ty; name = name }

-- the signature of a field of the class
abbrev pub field_sig : Class → Field → FieldSig
field_sig c f = signature c.name f.ty f.name

-- the fields of all classes, in the order of the text
abbrev pub fields_of : Class → List FieldSig
fields_of c = map (field_sig c) c.fields

abbrev pub declared_sigs : List Class → List FieldSig
declared_sigs cs = flat_map fields_of cs

-- a signature's name and type in the class of another name
abbrev pub in_class : FieldSig → List ℕ → FieldSig
in_class sig class = signature class sig.ty sig.name

-- a class of this name declares a field of the signature's name and type
abbrev pub Declares : List Class → List ℕ → FieldSig → Type 0
Declares cs class sig = Contains (declared_sigs cs) (in_class sig class)

-- the references in a statement
abbrev pub place_refs : Place → List FieldSig
place_refs (place.Field base sig) = sig ∷ []
place_refs (place.Static sig) = sig ∷ []
place_refs _ = []

abbrev pub rhs_refs : Rhs → List FieldSig
rhs_refs (rhs.Load base sig) = sig ∷ []
rhs_refs (rhs.StaticLoad sig) = sig ∷ []
rhs_refs _ = []

abbrev pub stmt_refs : Stmt → List FieldSig
stmt_refs (stmt.Assign place value) = place_refs place ++ rhs_refs value
stmt_refs _ = []

abbrev pub refs_in : List Stmt → List FieldSig
refs_in stmts = flat_map stmt_refs stmts

-- the references in all bodies, in the order of the text
abbrev pub references : List Class → List FieldSig
references cs = refs_in (stmts_in cs)

-- whether two signatures are one and the same
abbrev pub same_type : JType → JType → Bool
same_type a b = pointwise nat_eq a.base b.base && nat_eq a.dims b.dims

abbrev pub same_sig : FieldSig → FieldSig → Bool
same_sig a b = pointwise nat_eq a.class b.class && (same_type a.ty b.ty && pointwise nat_eq a.name b.name)
