use Rattle.std.proofs.Common.{◌≡◌, map, take, ◌++◌}
use Rattle.jimple_names.specs.Tree.{declares}
use Rattle.jimple_names.proofs.bodies.declare.Given as goal

abbrev pub invariant-loop-token : goal.invariant-loop-token
invariant-loop-token l = l.locals.items ≡ l.fn.locals.items ++ map (declares l.bytes l.decl) (take l.token-index l.decl.names)
