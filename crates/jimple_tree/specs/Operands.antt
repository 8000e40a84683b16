-- The texts of types, signatures, operands and calls.
-- Statements stand above, names below.
use Rattle.std.specs.Prelude.{ℕ, suc, zero, List, [], ◌++◌, map, codes, if◌then◌else◌, slice_index_or, Option, Some, None}
use Rattle.jimple_tree.specs.Names.{joined, is_one_of, primitives, name_text, quoted_name}
use Rattle.clean_base.specs.declared.ids.LocalId.{LocalId}
use Rattle.jimple_tree.specs.declared.tree.Body.{Body}
use Rattle.jimple_tree.specs.declared.tree.FieldSig.{FieldSig}
use Rattle.jimple_tree.specs.declared.tree.Imm.{Imm}
use Rattle.jimple_tree.specs.declared.tree.Imm.TheVariants as imm
use Rattle.jimple_tree.specs.declared.tree.Invoke.{Invoke}
use Rattle.jimple_tree.specs.declared.tree.InvokeKind.{InvokeKind}
use Rattle.jimple_tree.specs.declared.tree.InvokeKind.TheVariants.{Static, Virtual, Interface, Special}
use Rattle.jimple_tree.specs.declared.tree.JType.{JType}
use Rattle.jimple_tree.specs.declared.tree.Local.{Local}
use Rattle.jimple_tree.specs.declared.tree.Sig.{Sig}

unfoldable pub brackets : ℕ → List ℕ
brackets zero = []
brackets (suc n) = codes "[]" ++ brackets n

unfoldable pub base_text : List ℕ → List ℕ
base_text base = if is_one_of primitives base then base else name_text base

abbrev pub type_text : JType → List ℕ
type_text t = base_text t.base ++ brackets t.dims

-- the types of a signature and of a heading
abbrev pub types_text : List JType → List ℕ
types_text types = joined (codes ",") type_text types

-- what a signature and a field signature begin with
abbrev pub sig_head : List ℕ → JType → List ℕ → List ℕ
sig_head class type name = codes "<" ++ quoted_name class ++ codes ": " ++ type_text type ++ codes " " ++ name_text name

abbrev pub sig_text : Sig → List ℕ
sig_text s = sig_head s.class s.result s.name ++ codes "(" ++ types_text s.params ++ codes ")>"

abbrev pub field_sig_text : FieldSig → List ℕ
field_sig_text s = sig_head s.class s.ty s.name ++ codes ">"

abbrev pub local_text : Body → LocalId → List ℕ
local_text b x = name_text (slice_index_or (map (λ (l : Local). l.name) b.locals) x.0 [])

abbrev pub imm_text : Body → Imm → List ℕ
imm_text b (imm.Local x) = local_text b x
imm_text b (imm.Literal text) = text

abbrev pub args_text : Body → List Imm → List ℕ
args_text b args = joined (codes ", ") (imm_text b) args

abbrev pub kind_text : InvokeKind → List ℕ
kind_text Static = codes "staticinvoke "
kind_text Virtual = codes "virtualinvoke "
kind_text Interface = codes "interfaceinvoke "
kind_text Special = codes "specialinvoke "

abbrev pub base_dot_text : Body → Option LocalId → List ℕ
base_dot_text b None = []
base_dot_text b (Some x) = local_text b x ++ codes "."

abbrev pub invoke_text : Body → Invoke → List ℕ
invoke_text b i =
    kind_text i.kind ++ base_dot_text b i.base ++ sig_text i.sig ++ codes "(" ++ args_text b i.args ++ codes ")"
