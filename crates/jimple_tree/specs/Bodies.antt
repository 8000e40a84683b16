-- Bodies of methods, their statements in order, and the classes within the limits on both. Well formed classes stand
-- below.
use Rattle.std.specs.Prelude.{◌≤◌, List, [], length, Option, Some, None, filter, flat_map, is_some}
use Rattle.clean_base.specs.Limits.{most_methods, most_stmts}
use Rattle.jimple_tree.specs.WellFormed.{IsWellFormed}
use Rattle.jimple_tree.specs.declared.tree.Body.{Body}
use Rattle.jimple_tree.specs.declared.tree.Class.{Class}
use Rattle.jimple_tree.specs.declared.tree.Method.{Method}
use Rattle.jimple_tree.specs.declared.tree.Stmt.{Stmt}

-- the statements of a method; without a body it has none
abbrev pub body_stmts : Option Body → List Stmt
body_stmts None = []
body_stmts (Some body) = body.stmts

abbrev pub stmts_of : Method → List Stmt
stmts_of m = body_stmts m.body

-- the statements of the methods, one method after another
abbrev pub all_stmts : List Method → List Stmt
all_stmts methods = flat_map stmts_of methods

-- the methods with a body
abbrev pub bodied : List Method → List Method
bodied methods = filter (λ m. is_some m.body) methods

-- a well formed class within the limits on methods with a body and on statements
pub record IsWithin (c : Class) : Type 0 where
  pub well_formed : IsWellFormed c
  pub methods : length (bodied c.methods) ≤ most_methods
  pub statements : length (all_stmts c.methods) ≤ most_stmts
