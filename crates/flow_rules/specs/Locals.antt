-- Which taints a statement's operands hold, and rules that lead from a taint to a taint (docs/FLOW-RULES.md, "Rules for
-- paths").
use Rattle.std.specs.Prelude.{◌≡◌, Contains, Option, Some}
use Rattle.clean_base.specs.declared.ids.LocalId.{LocalId}
use Rattle.access_path.specs.Paths.{IsOf, HasField, IsAsleep, rebase}
use Rattle.access_path.specs.declared.fact.Base.TheVariants.{Local, Thrown}
use Rattle.access_path.specs.declared.fact.Fact.{Fact}
use Rattle.access_path.specs.declared.fact.Fact.TheVariants.{Zero, Taint as Tainted}
use Rattle.access_path.specs.declared.fact.Taint.{Taint}
use Rattle.access_path.specs.declared.view.CallView.{CallView}

-- From taints to taints

-- zero leads nowhere
abbrev pub OnTaints : (Taint → Taint → Type 0) → Fact → Fact → Type 0
OnTaints R (Tainted t) (Tainted u) = R t u
OnTaints R _ _ = ⊥

-- zero leads to zero
abbrev pub WithZero : (Taint → Taint → Type 0) → Fact → Fact → Type 0
WithZero R Zero Zero = Unit {0}
WithZero R (Tainted t) (Tainted u) = R t u
WithZero R _ _ = ⊥

-- What facts are

-- the fact is an exception's, on its way to a handler
abbrev pub IsThrown : Fact → Type 0
IsThrown Zero = ⊥
IsThrown (Tainted t) = t.base ≡ Thrown

-- the fact is a taint, and inactive
abbrev pub Sleeps : Fact → Type 0
Sleeps Zero = ⊥
Sleeps (Tainted t) = IsAsleep t

-- an inactive taint without a field says nothing, and no rule gives one
abbrev pub Says : Taint → Type 0
Says t = IsAsleep t → HasField t

-- What operands hold

-- the operand is a local, and the taint is of this local
abbrev pub Holds : Option LocalId → Taint → Type 0
Holds operand t = (x : LocalId) × (operand ≡ Some x) × IsOf t x

-- the operand is a local, and the second taint is the first as one of this local
abbrev pub Becomes : Option LocalId → Taint → Taint → Type 0
Becomes operand t u = (x : LocalId) × (operand ≡ Some x) × (u ≡ rebase (Local x) t)

abbrev pub IsArgument : CallView → Taint → Type 0
IsArgument call t = (x : LocalId) × Contains call.args (Some x) × IsOf t x
