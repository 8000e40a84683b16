-- That a fact, a statement and a leak name only the program's own statements, methods, locals and fields
-- (docs/FLOW-RULES.md, "Moves").
use Rattle.std.specs.Prelude.{◌≡◌, ◌<◌, ◌≤◌, ℕ, length, Contains, Option, Some}
use Rattle.clean_base.specs.Lists.{At}
use Rattle.clean_base.specs.declared.ids.FieldId.{FieldId}
use Rattle.clean_base.specs.declared.ids.LocalId.{LocalId}
use Rattle.clean_base.specs.declared.ids.MethodId.{MethodId}
use Rattle.clean_base.specs.declared.ids.StmtId.{StmtId}
use Rattle.ifds_model.specs.declared.node.Frame.{Frame}
use Rattle.ifds_model.specs.declared.node.Leak.{Leak}
use Rattle.access_path.specs.declared.fact.Base.{Base}
use Rattle.access_path.specs.declared.fact.Base.TheVariants as bases
use Rattle.access_path.specs.declared.fact.Fact.{Fact}
use Rattle.access_path.specs.declared.fact.Fact.TheVariants.{Zero, Taint as Tainted}
use Rattle.access_path.specs.declared.fact.Taint.{Taint}
use Rattle.access_path.specs.declared.fact.Wake.{Wake}
use Rattle.access_path.specs.declared.fact.Wake.TheVariants.{Active, Asleep}
use Rattle.access_path.specs.declared.view.CallView.{CallView}
use Rattle.access_path.specs.declared.view.View.{View}
use Rattle.access_path.specs.declared.view.View.TheVariants.{Copy, Kill, Load, Store, StaticStore, Mix, Call, Return, Throw, Other}
use Rattle.flow_rules.specs.Code.{Code, Stands, StandsIn, method_of}
use Rattle.flow_rules.specs.Locals.{Says}

module _ (code : Code) where
  abbrev pub IsStmt : StmtId → Type 0
  IsStmt s = s.0 < length code.views

  abbrev pub IsField : FieldId → Type 0
  IsField f = f.0 < code.fields

  -- the local is one of the method's
  abbrev pub IsLocalOf : MethodId → LocalId → Type 0
  IsLocalOf m x = (n : ℕ) × At code.locals m.0 n × (x.0 < n)

  abbrev pub OwnBase : MethodId → Base → Type 0
  OwnBase m (bases.Local x) = IsLocalOf m x
  OwnBase m (bases.Static f) = IsField f
  OwnBase m _ = Unit {0}

  abbrev pub OwnWake : Wake → Type 0
  OwnWake Active = Unit {0}
  OwnWake (Asleep at) = IsStmt at

  abbrev pub OwnOperand : MethodId → Option LocalId → Type 0
  OwnOperand m operand = (x : LocalId) → operand ≡ Some x → IsLocalOf m x

  pub record OwnCall (m : MethodId) (call : CallView) : Type 0 where
    pub result : OwnOperand m call.result
    pub receiver : OwnOperand m call.receiver
    pub args : (x : LocalId) → Contains call.args (Some x) → IsLocalOf m x

  -- a statement of the method
  abbrev pub OwnView : MethodId → View → Type 0
  OwnView m (Copy to from) = IsLocalOf m to × OwnBase m from
  OwnView m (Kill to) = IsLocalOf m to
  OwnView m (Load to base field) = IsLocalOf m to × IsLocalOf m base × IsField field
  OwnView m (Store base field from) = IsLocalOf m base × IsField field × OwnOperand m from
  OwnView m (StaticStore field from) = IsField field × OwnOperand m from
  OwnView m (Mix to left right) = IsLocalOf m to × OwnOperand m left × OwnOperand m right
  OwnView m (Call call) = OwnCall m call
  OwnView m (Return value) = OwnOperand m value
  OwnView m (Throw value) = OwnOperand m value
  OwnView m Other = Unit {0}

  -- what a program owes beside being whole: `inside` is a field of it, and each statement is of its method
  pub record IsNamed : Type 0 where
    pub own_fields : 2 ≤ code.fields
    pub views : (s : StmtId) (m : MethodId) (view : View) → StandsIn code s m → Stands code s view → OwnView m view

  -- a taint that holds in the method: at most k fields, and inactive only with one
  pub record OwnTaint (k : ℕ) (m : MethodId) (t : Taint) : Type 0 where
    pub source : IsStmt t.source
    pub base : OwnBase m t.base
    pub fields : (f : FieldId) → Contains t.fields f → IsField f
    pub few : length t.fields ≤ k
    pub wake : OwnWake t.wake
    pub says : Says t

  abbrev pub OwnFact : ℕ → MethodId → Fact → Type 0
  OwnFact k m Zero = Unit {0}
  OwnFact k m (Tainted t) = OwnTaint k m t

  -- what each path edge owes
  pub record OwnFrame (k : ℕ) (a : Frame Fact) : Type 0 where
    pub here : StandsIn code a.node.stmt a.context.method
    pub fact : OwnFact k a.context.method a.fact
    pub entry : OwnFact k a.context.method a.context.fact

  -- and each leak
  pub record OwnLeak (l : Leak) : Type 0 where
    pub sink : IsStmt l.sink
    pub source : IsStmt l.source
    pub base : IsLocalOf (method_of code l.sink) l.base
    pub fields : (f : FieldId) → Contains l.fields f → IsField f
