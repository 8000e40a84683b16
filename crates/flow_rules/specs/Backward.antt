-- What holds before a statement where an inactive taint holds after it, by cases on one statement and one taint
-- (docs/FLOW-RULES.md, "Before a statement"). A path keeps its first k fields.
use Rattle.std.specs.Prelude.{◌≡◌, ◌≢◌, ◌⊎◌, ℕ}
use Rattle.access_path.specs.Paths.{elements, IsOf, IsBelow, rebase, strip, prepend}
use Rattle.access_path.specs.declared.fact.Base.TheVariants as bases
use Rattle.access_path.specs.declared.fact.Fact.{Fact}
use Rattle.access_path.specs.declared.fact.Taint.{Taint}
use Rattle.access_path.specs.declared.view.View.{View}
use Rattle.access_path.specs.declared.view.View.TheVariants.{Copy, Kill, Load, Store, StaticStore, Mix, Call, Return, Throw, Other}
use Rattle.flow_rules.specs.Locals.{OnTaints, Holds, Becomes}

-- what the statement put there: the path before it from which the value came
abbrev pub ComesFrom : ℕ → View → Taint → Taint → Type 0
ComesFrom k (Copy to from) t u = IsOf t to × (u ≡ rebase from t)
ComesFrom k (Load to base field) t u = IsOf t to × (u ≡ rebase (bases.Local base) (prepend k field t))
ComesFrom k (Store base field from) t u = IsBelow t base field × Becomes from (strip t) u
ComesFrom k (StaticStore field from) t u = (t.base ≡ bases.Static field) × Becomes from t u
ComesFrom k (Return value) t u = (t.base ≡ bases.Return) × Becomes value t u
ComesFrom k (Throw value) t u = (t.base ≡ bases.Thrown) × Becomes value t u
ComesFrom k (Kill to) t u = ⊥
ComesFrom k (Mix to left right) t u = ⊥
ComesFrom k (Call call) t u = ⊥
ComesFrom k Other t u = ⊥

-- the statement alone put it there, so that the path doesn't hold before it. A store's own field alone goes on: other
-- names of the object are what is looked for
abbrev pub Ends : View → Taint → Type 0
Ends (Copy to from) t = IsOf t to
Ends (Kill to) t = IsOf t to
Ends (Load to base field) t = IsOf t to
Ends (Mix to left right) t = IsOf t to
Ends (Call call) t = Holds call.result t
Ends (Store base field from) t = (field ≢ elements) × IsBelow t base field
Ends (Return value) t = t.base ≡ bases.Return
Ends (StaticStore field from) t = ⊥
Ends (Throw value) t = ⊥
Ends Other t = ⊥

-- the path is the same before the statement; no exception is on its way there
abbrev pub Remains : View → Taint → Taint → Type 0
Remains view t u = (Ends view t → ⊥) × (t.base ≢ bases.Thrown) × (u ≡ t)

-- the facts before the statement
abbrev pub Under : ℕ → View → Fact → Fact → Type 0
Under k view f g = OnTaints (λ t u. ComesFrom k view t u ⊎ Remains view t u) f g
