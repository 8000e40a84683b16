-- What is gathered by method. The public contracts don't cite this.
use Rattle.std.specs.Prelude.{◌≡◌, ◌↔◌, ◌<◌, ℕ, [], List, length, slice_index_or, Contains}
use Rattle.clean_base.specs.Lists.{At}
use Rattle.clean_base.specs.declared.ids.MethodId.{MethodId}
use Rattle.clean_base.specs.declared.ids.StmtId.{StmtId}
use Rattle.jimple_tree.specs.declared.tree.Class.{Class}
use Rattle.access_path.specs.declared.view.View.{View}
use Rattle.access_path.specs.declared.view.View.TheVariants.{Return}
use Rattle.class_table.specs.Methods.{all_methods}
use Rattle.reach_rows.specs.Closure.{Closure, IsClosure}
use Rattle.statement_graph.specs.Statements.{IsOf}
use Rattle.program_code.specs.Views.{Raises}
use Rattle.app_program.specs.declared.ends.End.{End}
use Rattle.app_program.specs.declared.ends.End.TheVariants.{Returns, Throws}

-- the method may end there with a value
abbrev pub Gives : View → Type 0
Gives (Return value) = Unit {0}
Gives _ = ⊥

-- or with an exception
abbrev pub EndsSo : End → View → Type 0
EndsSo Returns view = Gives view
EndsSo Throws view = Raises view

-- the statement is seen so
abbrev pub IsSeen : List View → (View → Type 0) → StmtId → Type 0
IsSeen views Is s = (view : View) × At views s.0 view × Is view

-- for the first so many methods their statements that are seen so
pub record AreEnds (cs : List Class) (views : List View) (Is : View → Type 0) (count : ℕ) (rows : List (List StmtId)) : Type 0 where
  pub counted : length rows ≡ count
  pub each : (m : MethodId) (s : StmtId) → m.0 < count → Contains (slice_index_or rows m.0 []) s ↔ (IsOf cs s m × IsSeen views Is s)

-- the methods that the open calls of a method may come to
abbrev pub AreCalled : List Class → List (List MethodId) → MethodId → List MethodId → Type 0
AreCalled cs targets m called = (n : MethodId) → Contains called n ↔ ((s : StmtId) × IsOf cs s m × Contains (slice_index_or targets s.0 []) n)

-- for the first so many methods the numbers of those that their statements may come to
pub record AreCalls (cs : List Class) (targets : List (List MethodId)) (count : ℕ) (rows : List (List ℕ)) : Type 0 where
  pub counted : length rows ≡ count
  pub each : (m n : MethodId) → m.0 < count → Contains (slice_index_or rows m.0 []) n.0 ↔ ((s : StmtId) × IsOf cs s m × Contains (slice_index_or targets s.0 []) n)

-- each of these is a method of the classes
abbrev pub AreMethodsOf : List Class → List (List MethodId) → Type 0
AreMethodsOf cs targets = (s : ℕ) (n : MethodId) → Contains (slice_index_or targets s []) n → n.0 < length (all_methods cs)

-- what calls of these lead to from each method
abbrev pub IsReach : List Class → List (List MethodId) → Closure → Type 0
IsReach cs targets closure = (calls : List (List ℕ)) × AreCalls cs targets (length (all_methods cs)) calls × IsClosure calls closure
