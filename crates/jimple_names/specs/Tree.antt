-- The class of a raw class: each name in the place of its tokens, each local and each target by its place. Names that stand
-- for nothing are faults (Faults), and what they count as here matters to nobody.
use Rattle.std.specs.Prelude.{ℕ, ◌==◌, Bool, List, ◌++◌, map, flat_map, drop, codes, Option, Some, None}
use Rattle.std.specs.List.{filter_map}
use Rattle.std.specs.Option.{option_map}
use Rattle.clean_base.specs.declared.ids.LocalId.{LocalId}
use Rattle.jimple_tree.specs.declared.tree.BinOp.{BinOp}
use Rattle.jimple_tree.specs.declared.tree.BinOp.TheVariants as ops
use Rattle.jimple_tree.specs.declared.tree.Body.{Body}
use Rattle.jimple_tree.specs.declared.tree.Case.{Case}
use Rattle.jimple_tree.specs.declared.tree.Catch.{Catch}
use Rattle.jimple_tree.specs.declared.tree.Class.{Class}
use Rattle.jimple_tree.specs.declared.tree.Cond.{Cond}
use Rattle.jimple_tree.specs.declared.tree.Cond.TheVariants as conds
use Rattle.jimple_tree.specs.declared.tree.Field.{Field}
use Rattle.jimple_tree.specs.declared.tree.Given.{Given}
use Rattle.jimple_tree.specs.declared.tree.Given.TheVariants as given
use Rattle.jimple_tree.specs.declared.tree.Imm.{Imm}
use Rattle.jimple_tree.specs.declared.tree.Imm.TheVariants as imm
use Rattle.jimple_tree.specs.declared.tree.Invoke.{Invoke}
use Rattle.jimple_tree.specs.declared.tree.InvokeKind.{InvokeKind}
use Rattle.jimple_tree.specs.declared.tree.InvokeKind.TheVariants as calls
use Rattle.jimple_tree.specs.declared.tree.Local.{Local}
use Rattle.jimple_tree.specs.declared.tree.Method.{Method}
use Rattle.jimple_tree.specs.declared.tree.Place.TheVariants as place
use Rattle.jimple_tree.specs.declared.tree.Rhs.{Rhs}
use Rattle.jimple_tree.specs.declared.tree.Rhs.TheVariants as rhs
use Rattle.jimple_tree.specs.declared.tree.Stmt.{Stmt}
use Rattle.jimple_tree.specs.declared.tree.Stmt.TheVariants as stmt
use Rattle.jimple_words.specs.declared.kind.Kind.{Kind}
use Rattle.jimple_words.specs.declared.kind.Kind.TheVariants as kinds
use Rattle.jimple_grammar.specs.declared.lexeme.Lexeme.{Lexeme}
use Rattle.jimple_grammar.specs.declared.raw.RawBody.{RawBody}
use Rattle.jimple_grammar.specs.declared.raw.RawCall.{RawCall}
use Rattle.jimple_grammar.specs.declared.raw.RawCase.{RawCase}
use Rattle.jimple_grammar.specs.declared.raw.RawCatch.{RawCatch}
use Rattle.jimple_grammar.specs.declared.raw.RawClass.{RawClass}
use Rattle.jimple_grammar.specs.declared.raw.RawDecl.{RawDecl}
use Rattle.jimple_grammar.specs.declared.raw.RawGiven.{RawGiven}
use Rattle.jimple_grammar.specs.declared.raw.RawGiven.TheVariants as raw_given
use Rattle.jimple_grammar.specs.declared.raw.RawHead.{RawHead}
use Rattle.jimple_grammar.specs.declared.raw.RawImm.{RawImm}
use Rattle.jimple_grammar.specs.declared.raw.RawImm.TheVariants as raw_imm
use Rattle.jimple_grammar.specs.declared.raw.RawMember.{RawMember}
use Rattle.jimple_grammar.specs.declared.raw.RawMember.TheVariants as raw_member
use Rattle.jimple_grammar.specs.declared.raw.RawMethod.{RawMethod}
use Rattle.jimple_grammar.specs.declared.raw.RawRhs.{RawRhs}
use Rattle.jimple_grammar.specs.declared.raw.RawRhs.TheVariants as raw_rhs
use Rattle.jimple_grammar.specs.declared.raw.RawStmt.{RawStmt}
use Rattle.jimple_grammar.specs.declared.raw.RawStmt.TheVariants as raw_stmt
use Rattle.jimple_words.specs.Kind.{number}
use Rattle.jimple_words.specs.Kinds.{read_digits}
use Rattle.jimple_names.specs.Texts.{text, name_of, type_of, sig_of, field_sig_of}
use Rattle.jimple_names.specs.Scope.{Scope, items_of, stmts_of, scope_of, local_at, label_at, or_first}

-- Words and signs; the last of each list counts for all other kinds, which don't stand in its place

abbrev pub call_of : Kind → InvokeKind
call_of kinds.Staticinvoke = calls.Static
call_of kinds.Virtualinvoke = calls.Virtual
call_of kinds.Interfaceinvoke = calls.Interface
call_of _ = calls.Special

abbrev pub cond_of : Kind → Cond
cond_of kinds.EqualsEquals = conds.Eq
cond_of kinds.NotEquals = conds.Ne
cond_of kinds.Less = conds.Lt
cond_of kinds.LessEquals = conds.Le
cond_of kinds.Greater = conds.Gt
cond_of _ = conds.Ge

abbrev pub op_of : Kind → BinOp
op_of kinds.Plus = ops.Add
op_of kinds.Minus = ops.Sub
op_of kinds.Star = ops.Mul
op_of kinds.Slash = ops.Div
op_of kinds.Percent = ops.Rem
op_of kinds.Ampersand = ops.And
op_of kinds.Bar = ops.Or
op_of kinds.Caret = ops.Xor
op_of kinds.ShiftLeft = ops.Shl
op_of kinds.ShiftRight = ops.Shr
op_of kinds.ShiftRightUnsigned = ops.Ushr
op_of kinds.Cmp = ops.Cmp
op_of kinds.Cmpg = ops.Cmpg
op_of _ = ops.Cmpl

abbrev pub is_table : Kind → Bool
is_table k = number k == number kinds.Tableswitch

-- the number behind `parameter`, which has 9 bytes
abbrev pub parameter_of : List ℕ → Lexeme → ℕ
parameter_of bytes t = read_digits 0 (drop 9 (text bytes t))

-- Statements

module _ (bytes : List ℕ) (s : Scope) where
  abbrev pub local_of : Lexeme → LocalId
  local_of t = record { 0 = or_first (local_at s.locals (name_of bytes t)) }

  abbrev pub target_of : Lexeme → ℕ
  target_of t = or_first (label_at s.labels (name_of bytes t))

  -- a literal keeps the bytes of its token
  abbrev pub imm_of : RawImm → Imm
  imm_of (raw_imm.Local t) = imm.Local (local_of t)
  imm_of (raw_imm.Literal t) = imm.Literal (text bytes t)
  imm_of (raw_imm.Class t) = imm.Literal (codes "class " ++ text bytes t)

  abbrev pub invoke_of : RawCall → Invoke
  invoke_of k = record { kind = call_of k.callee.word.kind; base = option_map local_of k.callee.base; sig = sig_of bytes k.callee.sig; args = map imm_of k.args }

  abbrev pub given_of : RawGiven → Given
  given_of (raw_given.This ty) = given.This (type_of bytes ty)
  given_of (raw_given.Param word ty) = given.Param (parameter_of bytes word) (type_of bytes ty)
  given_of raw_given.Caught = given.Caught

  abbrev pub rhs_of : RawRhs → Rhs
  rhs_of (raw_rhs.Use x) = rhs.Use (imm_of x)
  rhs_of (raw_rhs.Cast ty x) = rhs.Cast (type_of bytes ty) (imm_of x)
  rhs_of (raw_rhs.Load x f) = rhs.Load (local_of x) (field_sig_of bytes f)
  rhs_of (raw_rhs.LoadStatic f) = rhs.StaticLoad (field_sig_of bytes f)
  rhs_of (raw_rhs.LoadElement x i) = rhs.Element (local_of x) (imm_of i)
  rhs_of (raw_rhs.New t) = rhs.New (name_of bytes t)
  rhs_of (raw_rhs.NewArray ty x) = rhs.NewArray (type_of bytes ty) (imm_of x)
  rhs_of (raw_rhs.NewMulti m) = rhs.NewMulti (type_of bytes m.ty) (map imm_of m.lengths) m.bare
  rhs_of (raw_rhs.InstanceOf x ty) = rhs.InstanceOf (imm_of x) (type_of bytes ty)
  rhs_of (raw_rhs.Length x) = rhs.Length (imm_of x)
  rhs_of (raw_rhs.Neg x) = rhs.Neg (imm_of x)
  rhs_of (raw_rhs.Binary left op right) = rhs.Binary (op_of op.kind) (imm_of left) (imm_of right)
  rhs_of (raw_rhs.Call k) = rhs.Call (invoke_of k)

  abbrev pub case_of : RawCase → Case
  case_of c = record { value = text bytes c.value; target = target_of c.target }

  abbrev pub stmt_of : RawStmt → Stmt
  stmt_of (raw_stmt.Identity x given) = stmt.Identity (local_of x) (given_of given)
  stmt_of (raw_stmt.Assign x r) = stmt.Assign (place.Local (local_of x)) (rhs_of r)
  stmt_of (raw_stmt.StoreField x f v) = stmt.Assign (place.Field (local_of x) (field_sig_of bytes f)) (rhs.Use (imm_of v))
  stmt_of (raw_stmt.StoreElement x i v) = stmt.Assign (place.Element (local_of x) (imm_of i)) (rhs.Use (imm_of v))
  stmt_of (raw_stmt.StoreStatic f v) = stmt.Assign (place.Static (field_sig_of bytes f)) (rhs.Use (imm_of v))
  stmt_of (raw_stmt.Call k) = stmt.Call (invoke_of k)
  stmt_of (raw_stmt.If left cond right target) = stmt.If (imm_of left) (cond_of cond.kind) (imm_of right) (target_of target)
  stmt_of (raw_stmt.Goto target) = stmt.Goto (target_of target)
  stmt_of (raw_stmt.Switch w) = stmt.Switch (is_table w.word.kind) (imm_of w.key) (map case_of w.cases) (target_of w.default)
  stmt_of (raw_stmt.Return value) = stmt.Return (option_map imm_of value)
  stmt_of (raw_stmt.Throw x) = stmt.Throw (imm_of x)
  stmt_of raw_stmt.Nop = stmt.Nop
  stmt_of (raw_stmt.Enter x) = stmt.Enter (imm_of x)
  stmt_of (raw_stmt.Exit x) = stmt.Exit (imm_of x)

  abbrev pub catch_of : RawCatch → Catch
  catch_of c = record { class = name_of bytes c.class; from = target_of c.from; to = target_of c.to; with = target_of c.with }

-- Bodies, members and classes

module _ (bytes : List ℕ) where
  abbrev pub declares : RawDecl → Lexeme → Local
  declares d t = record { ty = type_of bytes d.ty; name = name_of bytes t }

  -- a local for each name of a declaration, in order
  abbrev pub locals_of : RawDecl → List Local
  locals_of d = map (declares d) d.names

  abbrev pub body_of : RawBody → Body
  body_of b = record {
    locals = flat_map locals_of b.decls;
    stmts = map (stmt_of bytes (scope_of bytes b)) (stmts_of (items_of b.code));
    catches = map (catch_of bytes (scope_of bytes b)) b.catches;
  }

  abbrev pub field_of : RawHead → Field
  field_of h = record { modifiers = map (name_of bytes) h.modifiers; ty = type_of bytes h.ty; name = name_of bytes h.name }

  abbrev pub method_of : RawHead → RawMethod → Method
  method_of h m = record {
    modifiers = map (name_of bytes) h.modifiers;
    result = type_of bytes h.ty;
    name = name_of bytes h.name;
    params = map (type_of bytes) m.params;
    throws = map (name_of bytes) m.throws;
    body = option_map body_of m.body;
  }

  abbrev pub field_in : RawMember → Option Field
  field_in (raw_member.Field h) = Some (field_of h)
  field_in (raw_member.Method h m) = None

  abbrev pub method_in : RawMember → Option Method
  method_in (raw_member.Field h) = None
  method_in (raw_member.Method h m) = Some (method_of h m)

  abbrev pub class_of : RawClass → Class
  class_of c = record {
    modifiers = map (name_of bytes) c.modifiers;
    is_interface = c.heading.is_interface;
    name = name_of bytes c.heading.name;
    extends = map (name_of bytes) c.heading.extends;
    implements = map (name_of bytes) c.heading.implements;
    fields = filter_map field_in c.members;
    methods = filter_map method_in c.members;
  }
