use Rattle.std.specs.Borrow.{Lends, MutBor, Fml}
use denote.RattleType.{RattleType}
use Rattle.clean_base.specs.declared.gate.Counted.{Ghosts}
use Rattle.worker_turn.specs.declared.guard.Guard.{Guard}
use Rattle.worker_turn.specs.contracts.guard.Guard.{the_row}

-- the guard ends with the last value behind r
abbrev pub LendsValue : (R O : RattleType) → Ghosts R.Denot O.Denot → MutBor (Guard R.Denot O.Denot) → MutBor R.Denot → Fml
LendsValue R O G s r = Lends (the_row R O G) R s r (λ w. record s.now { value = w })
