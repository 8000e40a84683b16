-- Which trees are written so that they can be read: the names in them are names of words, modifiers are modifiers, literals
-- are tokens, and a new array of arrays has one length at least. The locals of a body differ by name, and its statements are so
-- few that their places have numbers.
use Rattle.std.specs.Prelude.{◌≡◌, ℕ, ◌<◌, ◌^◌, true, List, [], ◌∷◌, ◌++◌, length, map, codes, Option, Some, None}
use Rattle.std.specs.List.{AllByRecursion}
use Rattle.jimple_lex.specs.Forms.{IsNumber, IsString}
use Rattle.jimple_tree.specs.Names.{is_one_of}
use Rattle.jimple_tree.specs.WellFormed.{AreDistinct}
use Rattle.jimple_words.specs.declared.kind.Kind.{Kind}
use Rattle.jimple_words.specs.Kinds.{further_modifiers}
use Rattle.jimple_tree.specs.declared.tree.Body.{Body}
use Rattle.jimple_tree.specs.declared.tree.Case.{Case}
use Rattle.jimple_tree.specs.declared.tree.Catch.{Catch}
use Rattle.jimple_tree.specs.declared.tree.Class.{Class}
use Rattle.jimple_tree.specs.declared.tree.Field.{Field}
use Rattle.jimple_tree.specs.declared.tree.FieldSig.{FieldSig}
use Rattle.jimple_tree.specs.declared.tree.Given.{Given}
use Rattle.jimple_tree.specs.declared.tree.Given.TheVariants.{This, Param, Caught}
use Rattle.jimple_tree.specs.declared.tree.Imm.{Imm}
use Rattle.jimple_tree.specs.declared.tree.Imm.TheVariants as imm
use Rattle.jimple_tree.specs.declared.tree.Invoke.{Invoke}
use Rattle.jimple_tree.specs.declared.tree.JType.{JType}
use Rattle.jimple_tree.specs.declared.tree.Local.{Local}
use Rattle.jimple_tree.specs.declared.tree.Method.{Method}
use Rattle.jimple_tree.specs.declared.tree.Place.{Place}
use Rattle.jimple_tree.specs.declared.tree.Place.TheVariants as place
use Rattle.jimple_tree.specs.declared.tree.Rhs.{Rhs}
use Rattle.jimple_tree.specs.declared.tree.Rhs.TheVariants as rhs
use Rattle.jimple_tree.specs.declared.tree.Sig.{Sig}
use Rattle.jimple_tree.specs.declared.tree.Stmt.{Stmt}
use Rattle.jimple_tree.specs.declared.tree.Stmt.TheVariants as stmt
use Rattle.jimple_rewrite.proofs.IsName.{IsName}

-- Operands

-- `null`, a number, a string, or a class constant
pub data IsLiteral : List ℕ → Type 0 where
  null : {text : List ℕ} → text ≡ codes "null" → IsLiteral text
  number : {text : List ℕ} → IsNumber text → IsLiteral text
  string : {text : List ℕ} → IsString text → IsLiteral text
  class : {text : List ℕ} (of : List ℕ) → text ≡ codes "class " ++ of → IsString of → IsLiteral text

-- a primitive's name is a name too
abbrev pub TypeIsWritten : JType → Type 0
TypeIsWritten t = IsName t.base

pub record SigIsWritten (s : Sig) : Type 0 where
  pub class : IsName s.class
  pub returned : TypeIsWritten s.result
  pub name : IsName s.name
  pub params : AllByRecursion TypeIsWritten s.params

pub record FieldSigIsWritten (s : FieldSig) : Type 0 where
  pub class : IsName s.class
  pub type : TypeIsWritten s.ty
  pub name : IsName s.name

abbrev pub ImmIsWritten : Imm → Type 0
ImmIsWritten (imm.Local x) = Unit {0}
ImmIsWritten (imm.Literal text) = IsLiteral text

pub record InvokeIsWritten (i : Invoke) : Type 0 where
  pub sig : SigIsWritten i.sig
  pub args : AllByRecursion ImmIsWritten i.args

-- Statements

abbrev pub GivenIsWritten : Given → Type 0
GivenIsWritten (This type) = TypeIsWritten type
GivenIsWritten (Param place type) = TypeIsWritten type
GivenIsWritten Caught = Unit {0}

abbrev pub PlaceIsWritten : Place → Type 0
PlaceIsWritten (place.Local x) = Unit {0}
PlaceIsWritten (place.Field base sig) = FieldSigIsWritten sig
PlaceIsWritten (place.Static sig) = FieldSigIsWritten sig
PlaceIsWritten (place.Element base index) = ImmIsWritten index

abbrev pub RhsIsWritten : Rhs → Type 0
RhsIsWritten (rhs.Use value) = ImmIsWritten value
RhsIsWritten (rhs.Cast type value) = TypeIsWritten type × ImmIsWritten value
RhsIsWritten (rhs.Load base sig) = FieldSigIsWritten sig
RhsIsWritten (rhs.StaticLoad sig) = FieldSigIsWritten sig
RhsIsWritten (rhs.Element base index) = ImmIsWritten index
RhsIsWritten (rhs.New of) = IsName of
RhsIsWritten (rhs.NewArray type len) = TypeIsWritten type × ImmIsWritten len
RhsIsWritten (rhs.NewMulti type lens bare) = TypeIsWritten type × AllByRecursion ImmIsWritten lens × (0 < length lens)
RhsIsWritten (rhs.InstanceOf value type) = ImmIsWritten value × TypeIsWritten type
RhsIsWritten (rhs.Length value) = ImmIsWritten value
RhsIsWritten (rhs.Neg value) = ImmIsWritten value
RhsIsWritten (rhs.Binary op left right) = ImmIsWritten left × ImmIsWritten right
RhsIsWritten (rhs.Call invoke) = InvokeIsWritten invoke

abbrev pub CaseIsWritten : Case → Type 0
CaseIsWritten c = IsNumber c.value

abbrev pub StmtIsWritten : Stmt → Type 0
StmtIsWritten (stmt.Identity local what) = GivenIsWritten what
StmtIsWritten (stmt.Assign place rhs) = PlaceIsWritten place × RhsIsWritten rhs
StmtIsWritten (stmt.Call invoke) = InvokeIsWritten invoke
StmtIsWritten (stmt.If left cond right target) = ImmIsWritten left × ImmIsWritten right
StmtIsWritten (stmt.Goto target) = Unit {0}
StmtIsWritten (stmt.Switch table key cases default) = ImmIsWritten key × AllByRecursion CaseIsWritten cases
StmtIsWritten (stmt.Return None) = Unit {0}
StmtIsWritten (stmt.Return (Some value)) = ImmIsWritten value
StmtIsWritten (stmt.Throw value) = ImmIsWritten value
StmtIsWritten stmt.Nop = Unit {0}
StmtIsWritten (stmt.Enter value) = ImmIsWritten value
StmtIsWritten (stmt.Exit value) = ImmIsWritten value

-- Bodies, members and classes

abbrev pub LocalIsWritten : Local → Type 0
LocalIsWritten l = IsName l.name × TypeIsWritten l.ty

abbrev pub CatchIsWritten : Catch → Type 0
CatchIsWritten c = IsName c.class

abbrev pub LocalsAreDistinct : Body → Type 0
LocalsAreDistinct b = AreDistinct (λ (l : Local). l.name) b.locals

pub record BodyIsWritten (b : Body) : Type 0 where
  pub locals : AllByRecursion LocalIsWritten b.locals
  pub distinct : LocalsAreDistinct b
  pub few : length b.stmts < 2 ^ 32
  pub stmts : AllByRecursion StmtIsWritten b.stmts
  pub catches : AllByRecursion CatchIsWritten b.catches

abbrev pub OptionalBodyIsWritten : Option Body → Type 0
OptionalBodyIsWritten None = Unit {0}
OptionalBodyIsWritten (Some b) = BodyIsWritten b

-- the keywords that are modifiers
unfoldable pub modifier_keywords : List (List ℕ)
modifier_keywords =
    codes "abstract" ∷ codes "final" ∷ codes "native" ∷ codes "public" ∷ codes "protected" ∷ codes "private"
    ∷ codes "static" ∷ codes "synchronized" ∷ codes "transient" ∷ codes "volatile" ∷ codes "strictfp" ∷ codes "enum"
    ∷ codes "annotation" ∷ []

abbrev pub further_words : List (List ℕ)
further_words = map (λ (e : List ℕ × Kind). e.0) further_modifiers

abbrev pub IsModifier : List ℕ → Type 0
IsModifier m = is_one_of (modifier_keywords ++ further_words) m ≡ true

pub record FieldIsWritten (f : Field) : Type 0 where
  pub modifiers : AllByRecursion IsModifier f.modifiers
  pub type : TypeIsWritten f.ty
  pub name : IsName f.name

pub record MethodIsWritten (m : Method) : Type 0 where
  pub modifiers : AllByRecursion IsModifier m.modifiers
  pub returned : TypeIsWritten m.result
  pub name : IsName m.name
  pub params : AllByRecursion TypeIsWritten m.params
  pub throws : AllByRecursion IsName m.throws
  pub body : OptionalBodyIsWritten m.body

pub record ClassIsWritten (c : Class) : Type 0 where
  pub modifiers : AllByRecursion IsModifier c.modifiers
  pub name : IsName c.name
  pub extends : AllByRecursion IsName c.extends
  pub implements : AllByRecursion IsName c.implements
  pub fields : AllByRecursion FieldIsWritten c.fields
  pub methods : AllByRecursion MethodIsWritten c.methods
