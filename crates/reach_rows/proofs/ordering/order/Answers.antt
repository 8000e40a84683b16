use Rattle.std.proofs.Common.{ℕ, subst}
use Rattle.std.specs.Prelude.{Option, MatchOption}
use Rattle.reach_rows.specs.Graphs.{IsOnCycle, IsFirstOnCycle}
use Rattle.reach_rows.proofs.Taken.{finish_order}
use Rattle.reach_rows.proofs.ordering.order.Goals as goal

pub returns-in-Ok-None-clause-ok : goal.returns-in-Ok-None-clause-ok
returns-in-Ok-None-clause-ok c =
    let rows = c.args.rows.now in
    finish_order rows _ c.in-Ok.ensures (subst (λ (r : Option ℕ). MatchOption r ((a : ℕ) → IsOnCycle rows a → ⊥) (λ a. IsFirstOnCycle rows a)) c.in-Ok-None.field-0-is c.in-Ok-None.ensures)
