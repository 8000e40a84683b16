use Rattle.std.proofs.Common.{◌≡◌, map, take}
use Rattle.statement_views.specs.Views.{local_of}
use Rattle.statement_views.proofs.views.locals_of.Given as goal

abbrev pub invariant-loop-arg : goal.invariant-loop-arg
invariant-loop-arg l = l.locals.items ≡ map local_of (take l.arg-index l.args)
