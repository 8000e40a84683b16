-- A whole program as contracts see it.
use Rattle.std.specs.Prelude.{◌<◌, List, [], length, Option, Some, None}
use Rattle.clean_base.specs.declared.ids.MethodId.{MethodId}
use Rattle.flow_rules.specs.Code.{Code}
use Rattle.jimple_tree.specs.declared.tree.Body.{Body}
use Rattle.jimple_tree.specs.declared.tree.Class.{Class}
use Rattle.jimple_tree.specs.declared.tree.FieldSig.{FieldSig}
use Rattle.jimple_tree.specs.declared.tree.Local.{Local}
use Rattle.jimple_tree.specs.declared.tree.Method.{Method}

pub record App : Type 0 where
  -- in the order of reading
  pub classes : List Class
  -- the fields from number 2 on: the two before them are declared by no class
  pub fields : List FieldSig
  pub code : Code

abbrev pub IsMethod : Code → MethodId → Type 0
IsMethod code m = m.0 < length code.firsts

-- the locals of a method; without a body it has none
abbrev pub body_locals : Option Body → List Local
body_locals None = []
body_locals (Some body) = body.locals

abbrev pub locals_of : Method → List Local
locals_of m = body_locals m.body
