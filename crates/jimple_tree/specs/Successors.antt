-- The successors of a statement in its body (docs/FLOW-RULES.md, "Successors"). The labels of bodies stand below.
use Rattle.std.specs.Prelude.{◌≡◌, ◌<◌, ◌≤◌, ◌+◌, ℕ, length, Contains}
use Rattle.clean_base.specs.Lists.{At}
use Rattle.jimple_tree.specs.Labels.{targets_of}
use Rattle.jimple_tree.specs.declared.tree.Body.{Body}
use Rattle.jimple_tree.specs.declared.tree.Catch.{Catch}
use Rattle.jimple_tree.specs.declared.tree.Stmt.{Stmt}
use Rattle.jimple_tree.specs.declared.tree.Stmt.TheVariants.{Goto, Switch, Return, Throw}

-- the statement may be left for the next one
abbrev pub GoesOn : Stmt → Type 0
GoesOn (Goto target) = ⊥
GoesOn (Switch table key cases default) = ⊥
GoesOn (Return value) = ⊥
GoesOn (Throw value) = ⊥
GoesOn _ = Unit {0}

-- the statement at the place t is a successor of the one at s: it is the next one, or one that the statement names, or
-- the handler of a catch clause whose range covers the statement
pub data Succ (b : Body) (s t : ℕ) : Type 0 where
  falls : (stmt : Stmt) → At b.stmts s stmt → GoesOn stmt → t ≡ s + 1 → t < length b.stmts → Succ b s t
  jumps : (stmt : Stmt) → At b.stmts s stmt → Contains (targets_of stmt) t → Succ b s t
  caught : (c : Catch) → Contains b.catches c → c.from ≤ s → s < c.to → t ≡ c.with → Succ b s t
