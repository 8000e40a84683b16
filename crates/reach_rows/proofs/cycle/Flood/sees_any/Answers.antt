use Rattle.std.proofs.Common.{ℕ, List, sym, subst}
use Rattle.std.specs.Prelude.{Contains}
use Rattle.std.proofs.lemmas.Bool.{false≢true}
use Rattle.std.proofs.lemmas.List.{take_all}
use Rattle.reach_rows.proofs.cycle.Flood.sees_any.Goals as goal

pub returns : goal.returns
returns c = (
  (λ yes. absurd (false≢true yes)),
  (λ some. absurd (c.loop-node.invariant some.0 (subst (λ (ns : List ℕ). Contains ns some.0) (sym (take_all c.loop-node.node-index c.args.nodes.now c.loop-node-test.false)) some.1) some.2)),
)
