use Rattle.std.proofs.Common.{inl, inr}
use Rattle.flow_rules.specs.Locals.{IsThrown}
use Rattle.taint_problem.proofs.starts.ends.Goals as goal

pub returns-then-is_thrown : goal.returns-then-is_thrown
returns-then-is_thrown c = λ s.
    let thrown = c.is_thrown.ensures.0 c.if-is_thrown.true in
    let are = c.throws.ensures s in (
      (λ has. ((are.0 has).0, inl (thrown, (are.0 has).1))),
      (λ is. are.1 (is.0, elim (is.1) [ inl throws ↦ throws.1 | inr other ↦ absurd (other.0 thrown) ])),
    )

pub returns-else-is_thrown : goal.returns-else-is_thrown
returns-else-is_thrown c = λ s.
    let not_thrown : IsThrown c.args.fact.now → ⊥ = λ thrown. let is = c.is_thrown.ensures.1 thrown in let is_not = c.if-is_thrown.false in cc in
    let are = c.returns.ensures s in (
      (λ has. ((are.0 has).0, inr (not_thrown, (are.0 has).1))),
      (λ is. are.1 (is.0, elim (is.1) [ inl throws ↦ absurd (not_thrown throws.0) | inr other ↦ other.1 ])),
    )
