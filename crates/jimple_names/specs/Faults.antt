-- The first fault of names in the order of the text: a name given twice, a local that isn't declared, or a label that doesn't
-- stand in the body (docs/FORMATS.md, "Names").
use Rattle.std.specs.Prelude.{ℕ, nat_lt, is_some, Bool, false, ◌&&◌, List, [], ◌∷◌, ◌++◌, map, Option, Some, None, if◌then◌else◌}
use Rattle.std.specs.List.{list_any}
use lib.Pointwise.{pointwise}
use Rattle.std.specs.Str.{bytes_eq}
use Rattle.jimple_grammar.specs.declared.lexeme.Lexeme.{Lexeme}
use Rattle.jimple_grammar.specs.declared.raw.RawBody.{RawBody}
use Rattle.jimple_grammar.specs.declared.raw.RawCall.{RawCall}
use Rattle.jimple_grammar.specs.declared.raw.RawCase.{RawCase}
use Rattle.jimple_grammar.specs.declared.raw.RawCatch.{RawCatch}
use Rattle.jimple_grammar.specs.declared.raw.RawClass.{RawClass}
use Rattle.jimple_grammar.specs.declared.raw.RawHead.{RawHead}
use Rattle.jimple_grammar.specs.declared.raw.RawImm.{RawImm}
use Rattle.jimple_grammar.specs.declared.raw.RawImm.TheVariants as imms
use Rattle.jimple_grammar.specs.declared.raw.RawItem.{RawItem}
use Rattle.jimple_grammar.specs.declared.raw.RawItem.TheVariants as items
use Rattle.jimple_grammar.specs.declared.raw.RawMember.{RawMember}
use Rattle.jimple_grammar.specs.declared.raw.RawMember.TheVariants as members
use Rattle.jimple_grammar.specs.declared.raw.RawRhs.{RawRhs}
use Rattle.jimple_grammar.specs.declared.raw.RawRhs.TheVariants as sides
use Rattle.jimple_grammar.specs.declared.raw.RawStmt.{RawStmt}
use Rattle.jimple_grammar.specs.declared.raw.RawStmt.TheVariants as stmts
use Rattle.jimple_names.specs.declared.stop.NameFault.{NameFault}
use Rattle.jimple_names.specs.declared.stop.NameFault.TheVariants.{DoubleName, UnknownLocal, UnknownLabel}
use Rattle.jimple_names.specs.Texts.{name_of, type_of, same_type}
use Rattle.jimple_names.specs.Scope.{Scope, items_of, declared, scope_of, labels_from, local_at, label_at}

-- one fault, or else another
infixr 5 ◌or◌
abbrev pub ◌or◌ : Option NameFault → Option NameFault → Option NameFault
None or g = g
(Some f) or g = Some f

abbrev pub unless : Bool → NameFault → Option NameFault
unless holds f = if holds then None else Some f

-- the first fault of a list's items
abbrev pub first : {A : Type 0} → (A → Option NameFault) → List A → Option NameFault
first f [] = None
first f (x ∷ xs) = f x or first f xs

-- the first fault of a list's items, each judged by those before it
abbrev pub in_turn : {A : Type 0} → (List A → A → Option NameFault) → List A → List A → Option NameFault
in_turn f before [] = None
in_turn f before (x ∷ xs) = f before x or in_turn f (before ++ x ∷ []) xs

-- a second one of that name
abbrev pub double : Bool → Lexeme → Option NameFault
double again t = if again then Some (DoubleName t.from) else None

-- Statements

module _ (bytes : List ℕ) (s : Scope) where
  abbrev pub local_fault : Lexeme → Option NameFault
  local_fault t = unless (is_some (local_at s.locals (name_of bytes t))) (UnknownLocal t.from)

  -- the place is that of a statement
  abbrev pub is_statement : Option ℕ → Bool
  is_statement None = false
  is_statement (Some at) = nat_lt at s.count

  abbrev pub label_fault : Lexeme → Option NameFault
  label_fault t = unless (is_statement (label_at s.labels (name_of bytes t))) (UnknownLabel t.from)

  -- a range may end behind the last statement
  abbrev pub end_fault : Lexeme → Option NameFault
  end_fault t = unless (is_some (label_at s.labels (name_of bytes t))) (UnknownLabel t.from)

  abbrev pub imm_fault : RawImm → Option NameFault
  imm_fault (imms.Local t) = local_fault t
  imm_fault (imms.Literal t) = None
  imm_fault (imms.Class t) = None

  abbrev pub base_fault : Option Lexeme → Option NameFault
  base_fault None = None
  base_fault (Some t) = local_fault t

  abbrev pub call_fault : RawCall → Option NameFault
  call_fault k = base_fault k.callee.base or first imm_fault k.args

  abbrev pub rhs_fault : RawRhs → Option NameFault
  rhs_fault (sides.Use x) = imm_fault x
  rhs_fault (sides.Cast ty x) = imm_fault x
  rhs_fault (sides.Load x f) = local_fault x
  rhs_fault (sides.LoadStatic f) = None
  rhs_fault (sides.LoadElement x i) = local_fault x or imm_fault i
  rhs_fault (sides.New t) = None
  rhs_fault (sides.NewArray ty x) = imm_fault x
  rhs_fault (sides.NewMulti m) = first imm_fault m.lengths
  rhs_fault (sides.InstanceOf x ty) = imm_fault x
  rhs_fault (sides.Length x) = imm_fault x
  rhs_fault (sides.Neg x) = imm_fault x
  rhs_fault (sides.Binary left op right) = imm_fault left or imm_fault right
  rhs_fault (sides.Call k) = call_fault k

  abbrev pub case_fault : RawCase → Option NameFault
  case_fault c = label_fault c.target

  abbrev pub value_fault : Option RawImm → Option NameFault
  value_fault None = None
  value_fault (Some x) = imm_fault x

  abbrev pub stmt_fault : RawStmt → Option NameFault
  stmt_fault (stmts.Identity x given) = local_fault x
  stmt_fault (stmts.Assign x r) = local_fault x or rhs_fault r
  stmt_fault (stmts.StoreField x f v) = local_fault x or imm_fault v
  stmt_fault (stmts.StoreElement x i v) = local_fault x or imm_fault i or imm_fault v
  stmt_fault (stmts.StoreStatic f v) = imm_fault v
  stmt_fault (stmts.Call k) = call_fault k
  stmt_fault (stmts.If left cond right target) = imm_fault left or imm_fault right or label_fault target
  stmt_fault (stmts.Goto target) = label_fault target
  stmt_fault (stmts.Switch w) = imm_fault w.key or first case_fault w.cases or label_fault w.default
  stmt_fault (stmts.Return value) = value_fault value
  stmt_fault (stmts.Throw x) = imm_fault x
  stmt_fault stmts.Nop = None
  stmt_fault (stmts.Enter x) = imm_fault x
  stmt_fault (stmts.Exit x) = imm_fault x

  -- a label or a statement, behind those before it
  abbrev pub item_fault : List RawItem → RawItem → Option NameFault
  item_fault before (items.Label t) = double (is_some (label_at (labels_from bytes 0 before) (name_of bytes t))) t
  item_fault before (items.Stmt x) = stmt_fault x

  abbrev pub catch_fault : RawCatch → Option NameFault
  catch_fault c = label_fault c.from or end_fault c.to or label_fault c.with

-- Bodies, members and classes

module _ (bytes : List ℕ) where
  -- a local, behind those before it
  abbrev pub declared_fault : List Lexeme → Lexeme → Option NameFault
  declared_fault before t = double (is_some (local_at (map (name_of bytes) before) (name_of bytes t))) t

  abbrev pub body_fault : RawBody → Option NameFault
  body_fault b = in_turn declared_fault [] (declared b)
      or in_turn (item_fault bytes (scope_of bytes b)) [] (items_of b.code)
      or first (catch_fault bytes (scope_of bytes b)) b.catches

  -- fields of one name and type, methods of one name, one result and the same parameters
  abbrev pub same_head : RawHead → RawHead → Bool
  same_head h k = bytes_eq (name_of bytes h.name) (name_of bytes k.name) && same_type (type_of bytes h.ty) (type_of bytes k.ty)

  abbrev pub same_member : RawMember → RawMember → Bool
  same_member (members.Field h) (members.Field k) = same_head h k
  same_member (members.Method h m) (members.Method k n) = same_head h k && pointwise same_type (map (type_of bytes) m.params) (map (type_of bytes) n.params)
  same_member _ _ = false

  abbrev pub optional_body_fault : Option RawBody → Option NameFault
  optional_body_fault None = None
  optional_body_fault (Some b) = body_fault b

  -- a member, behind those before it: its name stands before its body
  abbrev pub member_fault : List RawMember → RawMember → Option NameFault
  member_fault before (members.Field h) = double (list_any (same_member (members.Field h)) before) h.name
  member_fault before (members.Method h m) = double (list_any (same_member (members.Method h m)) before) h.name or optional_body_fault m.body

  abbrev pub class_fault : RawClass → Option NameFault
  class_fault c = in_turn member_fault [] c.members

  -- the classes of a file
  abbrev pub names_fault : List RawClass → Option NameFault
  names_fault cs = first class_fault cs
