-- Where a statement leads by itself, and where by the clauses that catch (docs/FLOW-RULES.md, "Successors"). The public
-- contracts don't cite this: it is what functions on the way give.
use Rattle.std.specs.Prelude.{◌≡◌, ◌↔◌, ◌⊎◌, ◌<◌, ◌≤◌, ◌+◌, ℕ, List, length, Contains}
use Rattle.std.specs.List.Sorted.{IsStrictlyIncreasing}
use Rattle.clean_base.specs.Lists.{At}
use Rattle.jimple_tree.specs.Labels.{targets_of}
use Rattle.jimple_tree.specs.Successors.{GoesOn, Succ}
use Rattle.jimple_tree.specs.declared.tree.Body.{Body}
use Rattle.jimple_tree.specs.declared.tree.Catch.{Catch}
use Rattle.jimple_tree.specs.declared.tree.Stmt.{Stmt}

-- where a statement at s, of so many, leads itself
abbrev pub IsOwn : Stmt → ℕ → ℕ → ℕ → Type 0
IsOwn stmt count s t = Contains (targets_of stmt) t ⊎ (GoesOn stmt × (t ≡ s + 1) × (t < count))

-- the clause covers s, and t is its handler
abbrev pub Handles : Catch → ℕ → ℕ → Type 0
Handles c s t = (c.from ≤ s) × (s < c.to) × (t ≡ c.with)

-- some of these clauses does
abbrev pub IsCaught : List Catch → ℕ → ℕ → Type 0
IsCaught catches s t = (c : Catch) × Contains catches c × Handles c s t

-- the row has the successors of the statement at s of the body, each once and in order, where the body's first statement
-- has this number
pub record IsRow (b : Body) (first s : ℕ) (row : List ℕ) : Type 0 where
  pub ascending : IsStrictlyIncreasing row
  pub exact : (q : ℕ) → Contains row q ↔ ((u : ℕ) × (q ≡ first + u) × Succ b s u)

-- such a row for each of the first so many statements of the body
pub record AreRows (b : Body) (first count : ℕ) (rows : List (List ℕ)) : Type 0 where
  pub counted : length rows ≡ count
  pub each : (s : ℕ) (row : List ℕ) → At rows s row → IsRow b first s row

-- these places, each once and in order, with a number added to each
pub record IsShifted (first : ℕ) (places row : List ℕ) : Type 0 where
  pub ascending : IsStrictlyIncreasing row
  pub exact : (q : ℕ) → Contains row q ↔ ((u : ℕ) × (q ≡ first + u) × Contains places u)
