-- How the flow rules see a statement (docs/FLOW-RULES.md, "Statements").
use Rattle.std.specs.Prelude.{◌≡◌, ◌↔◌, List, Option, Some, None, map, IsTrue}
use Rattle.clean_base.specs.declared.ids.FieldId.{FieldId}
use Rattle.clean_base.specs.declared.ids.LocalId.{LocalId}
use Rattle.clean_base.specs.declared.ids.MethodId.{MethodId}
use Rattle.clean_base.specs.declared.ids.StmtId.{StmtId}
use Rattle.jimple_tree.specs.declared.tree.Class.{Class}
use Rattle.jimple_tree.specs.declared.tree.Given.{Given}
use Rattle.jimple_tree.specs.declared.tree.Given.TheVariants as given
use Rattle.jimple_tree.specs.declared.tree.Imm.{Imm}
use Rattle.jimple_tree.specs.declared.tree.Imm.TheVariants as imm
use Rattle.jimple_tree.specs.declared.tree.Invoke.{Invoke}
use Rattle.jimple_tree.specs.declared.tree.Place.{Place}
use Rattle.jimple_tree.specs.declared.tree.Place.TheVariants as place
use Rattle.jimple_tree.specs.declared.tree.Rhs.{Rhs}
use Rattle.jimple_tree.specs.declared.tree.Rhs.TheVariants as rhs
use Rattle.jimple_tree.specs.declared.tree.Stmt.{Stmt}
use Rattle.jimple_tree.specs.declared.tree.Stmt.TheVariants as stmt
use Rattle.source_sink.specs.declared.line.Line.{Line}
use Rattle.access_path.specs.Paths.{elements}
use Rattle.access_path.specs.declared.fact.Base.{Base}
use Rattle.access_path.specs.declared.fact.Base.TheVariants as base
use Rattle.access_path.specs.declared.view.CallView.{CallView}
use Rattle.access_path.specs.declared.view.View.{View}
use Rattle.access_path.specs.declared.view.View.TheVariants.{Copy, Kill, Load, Store, StaticStore, Mix, Call, Return, Throw, Other}
use Rattle.call_graph.specs.Calls.{IsKind, IsOpenTo}

-- the local of an operand
abbrev pub local_of : Imm → Option LocalId
local_of (imm.Local x) = Some x
local_of (imm.Literal text) = None

-- the local that a return gives
abbrev pub given_by : Option Imm → Option LocalId
given_by None = None
given_by (Some value) = local_of value

-- the local that a store puts into a field
abbrev pub stored : Rhs → Option LocalId
stored (rhs.Use value) = local_of value
stored _ = None

-- what an identity statement copies
abbrev pub source_of : Given → Base
source_of (given.This type) = base.This
source_of (given.Param n type) = base.Param n
source_of given.Caught = base.Thrown

-- what an assignment of an operand does to a local
abbrev pub copied : LocalId → Imm → View
copied to (imm.Local from) = Copy to (base.Local from)
copied to (imm.Literal text) = Kill to

module _ (cs : List Class) (lines : List Line) where
  -- a call, its place and operands, what the lists say of it, and whether methods of the program are called
  pub record IsCallView (at : StmtId) (result : Option LocalId) (invoke : Invoke) (view : CallView) : Type 0 where
    pub stands : view.stmt ≡ at
    pub gives : view.result ≡ result
    pub on : view.receiver ≡ invoke.base
    pub takes : view.args ≡ map local_of invoke.args
    pub source_says : IsTrue view.source ↔ IsKind cs lines invoke.sig (λ (l : Line). l.source)
    pub sink_says : IsTrue view.sink ↔ IsKind cs lines invoke.sig (λ (l : Line). l.sink)
    pub opens : IsTrue view.is_open ↔ ((n : MethodId) × IsOpenTo cs lines invoke n)

  abbrev pub IsViewOfCall : StmtId → Option LocalId → Invoke → View → Type 0
  IsViewOfCall at result invoke view = (call : CallView) × IsCallView at result invoke call × (view ≡ Call call)

  -- the statement refers to the field with this number, if it refers to one
  module _ (field : FieldId) where
    -- the view of an assignment to a local, which is killed where nothing is passed on to it
    abbrev pub IsRead : StmtId → LocalId → Rhs → View → Type 0
    IsRead at to (rhs.Use value) view = view ≡ copied to value
    IsRead at to (rhs.Cast type value) view = view ≡ copied to value
    IsRead at to (rhs.Load from sig) view = view ≡ Load to from field
    IsRead at to (rhs.StaticLoad sig) view = view ≡ Copy to (base.Static field)
    IsRead at to (rhs.Element from index) view = view ≡ Load to from elements
    IsRead at to (rhs.Neg value) view = view ≡ Mix to (local_of value) None
    IsRead at to (rhs.Binary op left right) view = view ≡ Mix to (local_of left) (local_of right)
    IsRead at to (rhs.Call invoke) view = IsViewOfCall at (Some to) invoke view
    IsRead at to _ view = view ≡ Kill to

    abbrev pub IsAssignment : StmtId → Place → Rhs → View → Type 0
    IsAssignment at (place.Local to) value view = IsRead at to value view
    IsAssignment at (place.Field into sig) value view = view ≡ Store into field (stored value)
    IsAssignment at (place.Static sig) value view = view ≡ StaticStore field (stored value)
    IsAssignment at (place.Element into index) value view = view ≡ Store into elements (stored value)

    abbrev pub IsView : StmtId → Stmt → View → Type 0
    IsView at (stmt.Identity to what) view = view ≡ Copy to (source_of what)
    IsView at (stmt.Assign place value) view = IsAssignment at place value view
    IsView at (stmt.Call invoke) view = IsViewOfCall at None invoke view
    IsView at (stmt.Return value) view = view ≡ Return (given_by value)
    IsView at (stmt.Throw value) view = view ≡ Throw (local_of value)
    IsView at _ view = view ≡ Other
