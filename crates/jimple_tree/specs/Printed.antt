-- Types and the signatures of methods as they are printed for readers: without quotes. The canonical text, whose names are
-- quoted where they must be, stands in `Operands`.
use Rattle.std.specs.Prelude.{ℕ, zero, suc, List, [], ◌∷◌, ◌++◌, codes, flat_map}
use Rattle.jimple_tree.specs.declared.tree.FieldSig.{FieldSig}
use Rattle.jimple_tree.specs.declared.tree.JType.{JType}
use Rattle.jimple_tree.specs.declared.tree.Method.{Method}

-- so many pairs of brackets
abbrev pub brackets : ℕ → List ℕ
brackets zero = []
brackets (suc n) = codes "[]" ++ brackets n

abbrev pub type_text : JType → List ℕ
type_text t = t.base ++ brackets t.dims

abbrev pub types_text : List JType → List ℕ
types_text [] = []
types_text (t ∷ ts) = type_text t ++ flat_map (λ u. codes "," ++ type_text u) ts

-- the class, and the type of a method's result or of a field
abbrev pub front_text : List ℕ → JType → List ℕ
front_text class result = codes "<" ++ class ++ codes ": " ++ type_text result ++ codes " "

-- a field is printed as its signature
abbrev pub field_text : FieldSig → List ℕ
field_text sig = front_text sig.class sig.ty ++ sig.name ++ codes ">"

-- a method of the class is printed as its signature
abbrev pub method_text : List ℕ → Method → List ℕ
method_text class m = front_text class m.result ++ m.name ++ codes "(" ++ types_text m.params ++ codes ")>"
