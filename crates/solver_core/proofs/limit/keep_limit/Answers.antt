use Rattle.std.proofs.Common.{arith, refl, inr}
use Rattle.solver_core.proofs.limit.keep_limit.Goals as goal

pub returns-then-passes_limit-clause-stopped : goal.returns-then-passes_limit-clause-stopped
returns-then-passes_limit-clause-stopped g c = ((c.in-Ok.more, c.in-Ok.ensures 0 0 0 0 0, omega (arith, c.if-passes_limit.ensures.yes refl, c.found-found.ensures)), refl)

pub returns-clause-within : goal.returns-clause-within
returns-clause-within g c = inr (c.in-Ok.more, c.in-Ok.ensures 0 0 0 0 0, omega (arith, c.if-passes_limit.ensures.no refl, c.found-found.ensures))
