-- The paths of a body, and what they show (docs/LIFECYCLE.md, "What a body means").
use Rattle.std.specs.Prelude.{◌≡◌, ℕ, List, [], ◌∷◌, ◌++◌, Option, Some, None, slice_get}
use Rattle.clean_base.specs.Lists.{At}
use Rattle.jimple_tree.specs.Successors.{Succ}
use Rattle.jimple_tree.specs.declared.tree.Body.{Body}
use Rattle.jimple_tree.specs.declared.tree.Imm.{Imm}
use Rattle.jimple_tree.specs.declared.tree.Place.{Place}
use Rattle.jimple_tree.specs.declared.tree.Rhs.{Rhs}
use Rattle.jimple_tree.specs.declared.tree.Rhs.TheVariants as rhs
use Rattle.jimple_tree.specs.declared.tree.Stmt.{Stmt}
use Rattle.jimple_tree.specs.declared.tree.Stmt.TheVariants.{Assign, Call, Return}
use Rattle.dummy_main.specs.Lifecycle.{Letter, Makes, Calls}

-- the places lead from s on, each a successor of the one before, to a return
abbrev pub IsPath : Body → ℕ → List ℕ → Type 0
IsPath b s [] = (value : Option Imm) × At b.stmts s (Return value)
IsPath b s (t ∷ places) = Succ b s t × IsPath b t places

-- what a statement shows
abbrev pub made : Place → Rhs → List Letter
made place (rhs.New class) = Makes place class ∷ []
made place (rhs.Call invoke) = Calls invoke.base invoke.sig ∷ []
made place _ = []

abbrev pub shown : Stmt → List Letter
shown (Assign place value) = made place value
shown (Call invoke) = Calls invoke.base invoke.sig ∷ []
shown _ = []

abbrev pub shown_by : Option Stmt → List Letter
shown_by None = []
shown_by (Some stmt) = shown stmt

-- what a path from s on shows
abbrev pub shown_along : Body → ℕ → List ℕ → List Letter
shown_along b s [] = shown_by (slice_get b.stmts s)
shown_along b s (t ∷ places) = shown_by (slice_get b.stmts s) ++ shown_along b t places

-- some path from s to a return shows these letters
abbrev pub Shows : Body → ℕ → List Letter → Type 0
Shows b s letters = (places : List ℕ) × IsPath b s places × (letters ≡ shown_along b s places)
