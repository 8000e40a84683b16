-- What holds after a statement that is no open call, which aliases it asks for, and its leaks, by cases on one statement
-- and one fact (docs/FLOW-RULES.md, "Rules for paths"). A path keeps its first k fields.
use Rattle.std.specs.Prelude.{◌≡◌, ◌≢◌, ◌⊎◌, ℕ, true, [], ◌∷◌, Some}
use Rattle.clean_base.specs.declared.ids.LocalId.{LocalId}
use Rattle.clean_base.specs.declared.ids.StmtId.{StmtId}
use Rattle.ifds_model.specs.declared.node.Leak.{Leak}
use Rattle.access_path.specs.Paths.{elements, inside, IsOf, IsActive, IsBare, StartsWith, IsBelow, rebase, strip, prepend, with_fields, sleep}
use Rattle.access_path.specs.declared.fact.Base.TheVariants as bases
use Rattle.access_path.specs.declared.fact.Fact.{Fact}
use Rattle.access_path.specs.declared.fact.Fact.TheVariants.{Zero, Taint as Tainted}
use Rattle.access_path.specs.declared.fact.Taint.{Taint}
use Rattle.access_path.specs.declared.fact.Wake.TheVariants.{Active}
use Rattle.access_path.specs.declared.view.CallView.{CallView}
use Rattle.access_path.specs.declared.view.View.{View}
use Rattle.access_path.specs.declared.view.View.TheVariants.{Copy, Kill, Load, Store, StaticStore, Mix, Call, Return, Throw, Other}
use Rattle.flow_rules.specs.Locals.{OnTaints, Says, Holds, Becomes, IsArgument}

-- Library calls (docs/FLOW-RULES.md, "Library calls")

-- what a library call passes on: to its result from an argument or the receiver, and from an argument into the receiver
abbrev pub PassesOn : CallView → Taint → Taint → Type 0
PassesOn call t u = ((IsArgument call t ⊎ Holds call.receiver t) × Becomes call.result (with_fields [] t) u)
    ⊎ (IsArgument call t × Becomes call.receiver (with_fields (inside ∷ []) t) u)

-- the same, as a rule of its own
abbrev pub Library : CallView → Fact → Fact → Type 0
Library call f g = OnTaints (λ t u. PassesOn call t u × Says u) f g

-- Over a statement (docs/FLOW-RULES.md, "What a statement gives" and "What a statement writes over")

-- the result of a source's call
abbrev pub FromSource : View → StmtId → Taint → Type 0
FromSource (Call call) at u = (call.source ≡ true) × ((x : LocalId) × (call.result ≡ Some x) × (u ≡ record { source = at; base = bases.Local x; fields = []; wake = Active }))
FromSource _ at u = ⊥

-- what a taint gives
abbrev pub Gives : ℕ → View → Taint → Taint → Type 0
Gives k (Copy to from) t u = (t.base ≡ from) × (u ≡ rebase (bases.Local to) t)
Gives k (Load to base field) t u = (StartsWith t (bases.Local base) field × (u ≡ rebase (bases.Local to) (strip t)))
    ⊎ (IsOf t base × IsBare t × (u ≡ rebase (bases.Local to) t))
Gives k (Store base field from) t u = Holds from t × (u ≡ rebase (bases.Local base) (prepend k field t))
Gives k (StaticStore field from) t u = Holds from t × (u ≡ rebase (bases.Static field) t)
Gives k (Mix to left right) t u = (Holds left t ⊎ Holds right t) × IsBare t × (u ≡ rebase (bases.Local to) t)
Gives k (Call call) t u = PassesOn call t u
Gives k (Throw value) t u = Holds value t × (u ≡ rebase bases.Thrown t)
Gives k (Kill to) t u = ⊥
Gives k (Return value) t u = ⊥
Gives k Other t u = ⊥

-- the statement writes over the path. A store writes over its own field, but for elements of arrays; an inactive taint
-- of exactly that field is of what the store itself puts there
abbrev pub Overwrites : View → Taint → Type 0
Overwrites (Copy to from) t = IsOf t to
Overwrites (Kill to) t = IsOf t to
Overwrites (Load to base field) t = IsOf t to
Overwrites (Mix to left right) t = IsOf t to
Overwrites (Call call) t = Holds call.result t
Overwrites (Store base field from) t = (field ≢ elements) × ((IsActive t × StartsWith t (bases.Local base) field) ⊎ IsBelow t base field)
Overwrites (StaticStore field from) t = ⊥
Overwrites (Return value) t = ⊥
Overwrites (Throw value) t = ⊥
Overwrites Other t = ⊥

-- the taint stays: the statement doesn't write over it, and it is no exception on its way
abbrev pub Stays : View → Taint → Taint → Type 0
Stays view t u = (Overwrites view t → ⊥) × (t.base ≢ bases.Thrown) × (u ≡ t)

-- the facts after the statement. What is given comes from the fact before it, also where that fact is lost
abbrev pub Over : ℕ → View → StmtId → Fact → Fact → Type 0
Over k view at Zero Zero = Unit {0}
Over k view at Zero (Tainted u) = FromSource view at u
Over k view at (Tainted t) Zero = ⊥
Over k view at (Tainted t) (Tainted u) = (Gives k view t u × Says u) ⊎ Stays view t u

-- Aliases (docs/FLOW-RULES.md, "Aliases")

-- what is written into an object may be read through other names of it: a path to look for names of, inactive until
-- this statement is crossed
abbrev pub AsksFor : ℕ → View → StmtId → Taint → Taint → Type 0
AsksFor k (Store base field from) at t u = Holds from t × (u ≡ sleep at (rebase (bases.Local base) (prepend k field t)))
AsksFor k (Call call) at t u = IsArgument call t × Becomes call.receiver (sleep at (with_fields (inside ∷ []) t)) u
AsksFor k _ at t u = ⊥

abbrev pub Triggers : ℕ → View → StmtId → Fact → Fact → Type 0
Triggers k view at f g = OnTaints (AsksFor k view at) f g

-- Leaks (docs/FLOW-RULES.md, "Leaks of paths")

-- the sink's call takes an active taint of a local as an argument
abbrev pub Leaks : View → StmtId → Fact → Leak → Type 0
Leaks (Call call) at (Tainted t) l = (call.sink ≡ true) × IsActive t × IsArgument call t × IsOf t l.base
    × (l ≡ record { sink = at; source = t.source; base = l.base; fields = t.fields })
Leaks _ at f l = ⊥
