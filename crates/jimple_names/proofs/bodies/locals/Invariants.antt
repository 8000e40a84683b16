use Rattle.std.proofs.Common.{◌≡◌, take, flat_map}
use Rattle.jimple_names.specs.Tree.{locals_of}
use Rattle.jimple_names.proofs.bodies.locals.Given as goal

abbrev pub invariant-loop-decl : goal.invariant-loop-decl
invariant-loop-decl l = l.locals.items ≡ flat_map (locals_of l.bytes) (take l.decl-index l.decls)
