-- Which classes are well formed, level by level: an operand, a statement, a body, a method and a class.
-- The canonical text (Canonical) stands above; only the tree's own types stand below.
use Rattle.std.specs.Prelude.{◌≡◌, ◌≢◌, ℕ, ◌<◌, ◌≤◌, false, List, length, Option, Some, None, All}
use Rattle.std.specs.List.{AllPairs}
use Rattle.clean_base.specs.declared.ids.LocalId.{LocalId}
use Rattle.clean_base.specs.Limits.{most_locals, most_params}
use Rattle.jimple_tree.specs.declared.tree.Body.{Body}
use Rattle.jimple_tree.specs.declared.tree.Catch.{Catch}
use Rattle.jimple_tree.specs.declared.tree.Class.{Class}
use Rattle.jimple_tree.specs.declared.tree.Field.{Field}
use Rattle.jimple_tree.specs.declared.tree.Given.{Given}
use Rattle.jimple_tree.specs.declared.tree.Given.TheVariants as given
use Rattle.jimple_tree.specs.declared.tree.Imm.{Imm}
use Rattle.jimple_tree.specs.declared.tree.Imm.TheVariants as imm
use Rattle.jimple_tree.specs.declared.tree.Invoke.{Invoke}
use Rattle.jimple_tree.specs.declared.tree.InvokeKind.{InvokeKind}
use Rattle.jimple_tree.specs.declared.tree.InvokeKind.TheVariants as kind
use Rattle.jimple_tree.specs.declared.tree.JType.{JType}
use Rattle.jimple_tree.specs.declared.tree.Method.{Method}
use Rattle.jimple_tree.specs.declared.tree.Place.{Place}
use Rattle.jimple_tree.specs.declared.tree.Place.TheVariants as place
use Rattle.jimple_tree.specs.declared.tree.Rhs.{Rhs}
use Rattle.jimple_tree.specs.declared.tree.Rhs.TheVariants as rhs
use Rattle.jimple_tree.specs.declared.tree.Stmt.{Stmt}
use Rattle.jimple_tree.specs.declared.tree.Stmt.TheVariants as stmt

-- Operands

-- the local is one of the body's
abbrev pub LocalFits : Body → LocalId → Type 0
LocalFits b x = x.0 < length b.locals

abbrev pub ImmFits : Body → Imm → Type 0
ImmFits b (imm.Local x) = LocalFits b x
ImmFits b (imm.Literal text) = Unit {0}

-- a call has a base exactly where its kind isn't static
abbrev pub BaseFits : Body → InvokeKind → Option LocalId → Type 0
BaseFits b kind.Static None = Unit {0}
BaseFits b kind.Static (Some x) = ⊥
BaseFits b kind.Virtual None = ⊥
BaseFits b kind.Virtual (Some x) = LocalFits b x
BaseFits b kind.Interface None = ⊥
BaseFits b kind.Interface (Some x) = LocalFits b x
BaseFits b kind.Special None = ⊥
BaseFits b kind.Special (Some x) = LocalFits b x

-- as many arguments as the signature has parameters
abbrev pub InvokeFits : Body → Invoke → Type 0
InvokeFits b i = BaseFits b i.kind i.base × (length i.args ≡ length i.sig.params) × All (ImmFits b) i.args

-- Statements

-- a place in the body that a jump may name
abbrev pub TargetFits : Body → ℕ → Type 0
TargetFits b target = target < length b.stmts

abbrev pub GivenFits : Given → Type 0
GivenFits (given.This type) = Unit {0}
GivenFits (given.Param number type) = number ≤ 254
GivenFits given.Caught = Unit {0}

abbrev pub PlaceFits : Body → Place → Type 0
PlaceFits b (place.Local x) = LocalFits b x
PlaceFits b (place.Field base sig) = LocalFits b base
PlaceFits b (place.Static sig) = Unit {0}
PlaceFits b (place.Element base index) = LocalFits b base × ImmFits b index

abbrev pub RhsFits : Body → Rhs → Type 0
RhsFits b (rhs.Use value) = ImmFits b value
RhsFits b (rhs.Cast type value) = ImmFits b value
RhsFits b (rhs.Load base sig) = LocalFits b base
RhsFits b (rhs.StaticLoad sig) = Unit {0}
RhsFits b (rhs.Element base index) = LocalFits b base × ImmFits b index
RhsFits b (rhs.New class) = Unit {0}
RhsFits b (rhs.NewArray type len) = ImmFits b len
RhsFits b (rhs.NewMulti type lens bare) = All (ImmFits b) lens
RhsFits b (rhs.InstanceOf value type) = ImmFits b value
RhsFits b (rhs.Length value) = ImmFits b value
RhsFits b (rhs.Neg value) = ImmFits b value
RhsFits b (rhs.Binary op left right) = ImmFits b left × ImmFits b right
RhsFits b (rhs.Call invoke) = InvokeFits b invoke

abbrev pub IsUse : Rhs → Type 0
IsUse (rhs.Use value) = Unit {0}
IsUse _ = ⊥

-- what is written to a place that is no local is an operand
abbrev pub PlaceTakes : Place → Rhs → Type 0
PlaceTakes (place.Local x) value = Unit {0}
PlaceTakes _ value = IsUse value

abbrev pub StmtFits : Body → Stmt → Type 0
StmtFits b (stmt.Identity local what) = LocalFits b local × GivenFits what
StmtFits b (stmt.Assign place rhs) = PlaceFits b place × RhsFits b rhs × PlaceTakes place rhs
StmtFits b (stmt.Call invoke) = InvokeFits b invoke
StmtFits b (stmt.If left cond right target) = ImmFits b left × ImmFits b right × TargetFits b target
StmtFits b (stmt.Goto target) = TargetFits b target
StmtFits b (stmt.Switch table key cases default) = ImmFits b key × All (λ c. TargetFits b c.target) cases × TargetFits b default
StmtFits b (stmt.Return None) = Unit {0}
StmtFits b (stmt.Return (Some value)) = ImmFits b value
StmtFits b (stmt.Throw value) = ImmFits b value
StmtFits b stmt.Nop = Unit {0}
StmtFits b (stmt.Enter value) = ImmFits b value
StmtFits b (stmt.Exit value) = ImmFits b value

-- Bodies, methods and classes

-- a catch clause may end behind the last statement, and starts and is handled at statements
abbrev pub CatchFits : Body → Catch → Type 0
CatchFits b c = TargetFits b c.from × (c.to ≤ length b.stmts) × TargetFits b c.with

pub record BodyFits (b : Body) : Type 0 where
  pub has_statement : 0 < length b.stmts
  pub locals : length b.locals ≤ most_locals
  pub stmts : All (StmtFits b) b.stmts
  pub catches : All (CatchFits b) b.catches

abbrev pub OptionalBodyFits : Option Body → Type 0
OptionalBodyFits None = Unit {0}
OptionalBodyFits (Some b) = BodyFits b

pub record MethodFits (m : Method) : Type 0 where
  pub params : length m.params ≤ most_params
  pub body : OptionalBodyFits m.body

-- no two items of the list, at different places, have one key
abbrev pub AreDistinct : {X K : Type 0} → (X → K) → List X → Type 0
AreDistinct key xs = AllPairs (λ x y. key x ≢ key y) xs

-- fields of a class differ in name or type
abbrev pub field_key : Field → List ℕ × JType
field_key f = (f.name, f.ty)

-- methods of a class differ in name, parameters or result
abbrev pub method_key : Method → List ℕ × List JType × JType
method_key m = (m.name, m.params, m.result)

pub record IsWellFormed (c : Class) : Type 0 where
  pub superclass : c.is_interface ≡ false → length c.extends ≤ 1
  pub fields : AreDistinct field_key c.fields
  pub methods : AreDistinct method_key c.methods
  pub each_method : All MethodFits c.methods
