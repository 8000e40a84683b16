-- What open calls hand over, what passes them, what leaves a method and what comes back, by cases on one fact
-- (docs/FLOW-RULES.md, "Rules for paths").
use Rattle.std.specs.Prelude.{◌≡◌, ◌⊎◌, ℕ, Option, Some}
use Rattle.clean_base.specs.Lists.{At}
use Rattle.clean_base.specs.declared.ids.LocalId.{LocalId}
use Rattle.clean_base.specs.declared.ids.StmtId.{StmtId}
use Rattle.ifds_model.specs.declared.node.Dir.{Dir}
use Rattle.ifds_model.specs.declared.node.Dir.TheVariants.{Forward, Backward}
use Rattle.access_path.specs.Paths.{HasField, rebase, sleep}
use Rattle.access_path.specs.declared.fact.Base.{Base}
use Rattle.access_path.specs.declared.fact.Base.TheVariants.{Local, This, Param, Return, Static, Thrown}
use Rattle.access_path.specs.declared.fact.Fact.{Fact}
use Rattle.access_path.specs.declared.fact.Taint.{Taint}
use Rattle.access_path.specs.declared.view.CallView.{CallView}
use Rattle.access_path.specs.declared.view.View.TheVariants.{Call}
use Rattle.flow_rules.specs.Forward.{Stays}
use Rattle.flow_rules.specs.Locals.{OnTaints, WithZero, Holds, Becomes}

-- Into a method (docs/FLOW-RULES.md, "Into a method")

-- what a base of the caller is called inside: a local as each argument that it is, and as the receiver
abbrev pub IsInside : CallView → Base → Base → Type 0
IsInside call (Local x) b = ((call.receiver ≡ Some x) × (b ≡ This)) ⊎ ((i : ℕ) × At call.args i (Some x) × (b ≡ Param i))
IsInside call (Static f) b = b ≡ Static f
IsInside call _ b = ⊥

-- at its end, a method's result is the local that takes it, and an exception is one still
abbrev pub IsInsideAtEnd : CallView → Base → Base → Type 0
IsInsideAtEnd call (Local x) b = (call.result ≡ Some x) × (b ≡ Return)
IsInsideAtEnd call Thrown b = b ≡ Thrown
IsInsideAtEnd call _ b = ⊥

-- the taint under a base's other name
abbrev pub Renamed : (Base → Base → Type 0) → Taint → Taint → Type 0
Renamed names t u = (b : Base) × names t.base b × (u ≡ rebase b t)

-- what a call hands over: forward at the method's start, backward at its end, where only paths with a field are handed over
abbrev pub Enters : CallView → Dir → Fact → Fact → Type 0
Enters call Forward f g = WithZero (Renamed (IsInside call)) f g
Enters call Backward f g = OnTaints (λ t u. HasField t × (Renamed (IsInside call) t u ⊎ Renamed (IsInsideAtEnd call) t u)) f g

-- Past a call (docs/FLOW-RULES.md, "Past a call")

-- what holds behind an open call whatever the method does: all but the result and an exception on its way
abbrev pub Passes : CallView → Fact → Fact → Type 0
Passes call f g = WithZero (Stays (Call call)) f g

-- Out of a method (docs/FLOW-RULES.md, "Out of a method")

-- the caller sees it too: a static field, and what lies below the receiver or a parameter
abbrev pub IsShared : Base → Taint → Type 0
IsShared This t = HasField t
IsShared (Param i) t = HasField t
IsShared (Static f) t = Unit {0}
IsShared _ t = ⊥

-- at a return of this value
abbrev pub Exits : Option LocalId → Fact → Fact → Type 0
Exits value f g = WithZero (λ t u. (Holds value t × (u ≡ rebase Return t)) ⊎ (IsShared t.base t × (u ≡ t))) f g

-- at a throw of this value
abbrev pub Throws : Option LocalId → Fact → Fact → Type 0
Throws value f g = OnTaints (λ t u. Holds value t × (u ≡ rebase Thrown t)) f g

-- Back in the caller (docs/FLOW-RULES.md, "Back in the caller")

-- the caller's local for the receiver or a parameter
abbrev pub IsOutside : CallView → Base → LocalId → Type 0
IsOutside call This x = call.receiver ≡ Some x
IsOutside call (Param i) x = At call.args i (Some x)
IsOutside call _ x = ⊥

-- what lies below the receiver or a parameter, in the caller's names
abbrev pub ComesOut : CallView → Taint → Taint → Type 0
ComesOut call t u = HasField t × ((x : LocalId) × IsOutside call t.base x × (u ≡ rebase (Local x) t))

-- what comes ahead of a taint of this base: a static field is the caller's too, the result has its local, and what lies
-- below the receiver and arguments is there unless the result is written over it
abbrev pub ComesAhead : CallView → Base → Taint → Taint → Type 0
ComesAhead call (Static f) t u = u ≡ t
ComesAhead call Return t u = Becomes call.result t u
ComesAhead call This t u = ComesOut call t u × (Holds call.result u → ⊥)
ComesAhead call (Param i) t u = ComesOut call t u × (Holds call.result u → ⊥)
ComesAhead call (Local x) t u = ⊥
ComesAhead call Thrown t u = ⊥

abbrev pub ReturnsAhead : CallView → Fact → Fact → Type 0
ReturnsAhead call f g = WithZero (λ t u. ComesAhead call t.base t u) f g

-- before the call: other names of what lies below the receiver and arguments are looked for, inactive until the call is
-- crossed
abbrev pub ReturnsBehind : CallView → StmtId → Fact → Fact → Type 0
ReturnsBehind call at f g = OnTaints (λ t u. (v : Taint) × ComesOut call t v × (u ≡ sleep at v)) f g
