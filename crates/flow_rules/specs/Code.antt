-- A program as the machine sees it: its statements through all bodies, in the order of methods (docs/FLOW-RULES.md,
-- "Moves").
use Rattle.std.specs.Prelude.{◌≡◌, ◌⊎◌, ◌<◌, ◌≤◌, ◌^◌, ℕ, true, false, List, length, Contains, Option, slice_index_or}
use Rattle.clean_base.specs.Lists.{At}
use Rattle.clean_base.specs.declared.ids.LocalId.{LocalId}
use Rattle.clean_base.specs.declared.ids.MethodId.{MethodId}
use Rattle.clean_base.specs.declared.ids.StmtId.{StmtId}
use Rattle.access_path.specs.declared.fact.Base.TheVariants.{Thrown}
use Rattle.access_path.specs.declared.view.CallView.{CallView}
use Rattle.access_path.specs.declared.view.View.{View}
use Rattle.access_path.specs.declared.view.View.TheVariants.{Copy, Call, Return, Throw}
use Rattle.reach_rows.specs.Reaches.{Reaches}

pub record Code : Type 0 where
  -- where it is entered
  pub root : MethodId
  -- the first statement of each method
  pub firsts : List StmtId
  -- how many locals each method has, and how many fields there are
  pub locals : List ℕ
  pub fields : ℕ
  -- what each statement is
  pub views : List View
  -- the method of each statement
  pub owners : List MethodId
  -- the successors of each statement
  pub nexts : List (List StmtId)
  -- the methods that each statement calls: none but at open calls
  pub targets : List (List MethodId)

abbrev pub Stands : Code → StmtId → View → Type 0
Stands code s view = At code.views s.0 view

abbrev pub StandsIn : Code → StmtId → MethodId → Type 0
StandsIn code s m = At code.owners s.0 m

-- the second statement is a successor of the first
abbrev pub Follows : Code → StmtId → StmtId → Type 0
Follows code s q = (qs : List StmtId) × At code.nexts s.0 qs × Contains qs q

abbrev pub IsTarget : Code → StmtId → MethodId → Type 0
IsTarget code s m = (ms : List MethodId) × At code.targets s.0 ms × Contains ms m

-- the first method has an open call of the second
abbrev pub Calls : Code → MethodId → MethodId → Type 0
Calls code m n = (s : StmtId) × StandsIn code s m × IsTarget code s n

-- open calls lead from the one method to the other
abbrev pub Leads : Code → MethodId → MethodId → Type 0
Leads code m n = Reaches (Calls code) m n

abbrev pub IsOpenCall : Code → StmtId → CallView → Type 0
IsOpenCall code s call = Stands code s (Call call) × (call.is_open ≡ true)

abbrev pub IsReturn : Code → StmtId → Type 0
IsReturn code s = (value : Option LocalId) × Stands code s (Return value)

-- the statement takes the exception that is on its way
abbrev pub IsCatch : Code → StmtId → Type 0
IsCatch code s = (x : LocalId) × Stands code s (Copy x Thrown)

-- a throw, or an open call
abbrev pub MayThrow : Code → StmtId → Type 0
MayThrow code s = ((value : Option LocalId) × Stands code s (Throw value)) ⊎ ((call : CallView) × IsOpenCall code s call)

-- the method of a statement; a number beyond the statements counts as the root's
abbrev pub method_of : Code → StmtId → MethodId
method_of code s = slice_index_or code.owners s.0 code.root

-- every number is one of the program's
pub record IsWhole (code : Code) : Type 0 where
  pub root : code.root.0 < length code.firsts
  pub few_methods : length code.firsts < 2 ^ 32
  pub few_statements : length code.views ≤ 2 ^ 32
  pub owned : length code.owners ≡ length code.views
  pub owners : (m : MethodId) → Contains code.owners m → m.0 < length code.firsts
  -- each method starts in its own body, and a successor stands in the same body
  pub starts : (m : MethodId) (s : StmtId) → At code.firsts m.0 s → StandsIn code s m
  pub inside : (s q : StmtId) → Follows code s q → (m : MethodId) × StandsIn code s m × StandsIn code q m
  -- a call knows its place, and is open exactly where it has a target; then it is neither source nor sink
  pub placed : (s : StmtId) (call : CallView) → Stands code s (Call call) → call.stmt ≡ s
  pub opens : (s : StmtId) (m : MethodId) → IsTarget code s m → (call : CallView) × IsOpenCall code s call
  pub aims : (s : StmtId) (call : CallView) → IsOpenCall code s call → (m : MethodId) × IsTarget code s m
  pub plain : (s : StmtId) (call : CallView) → IsOpenCall code s call → (call.source ≡ false) × (call.sink ≡ false)
  -- targets are methods, and the arguments of an open call can be numbered
  pub targets : (s : StmtId) (m : MethodId) → IsTarget code s m → m.0 < length code.firsts
  pub args : (s : StmtId) (call : CallView) → IsOpenCall code s call → length call.args ≤ 255
