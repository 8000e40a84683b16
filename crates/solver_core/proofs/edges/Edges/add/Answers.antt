use Rattle.std.proofs.Common.{inl, inr}
use Rattle.solver_core.proofs.edges.Edges.add.Goals as goal

pub returns-then-add-clause-from : goal.returns-then-add-clause-from
returns-then-add-clause-from g c = rw (← c.self.view_is) (λ e has. elim (c.add.ensures.from 0 e has) [ inl was ↦ inl was | inr is ↦ inr is.1 ])

pub returns-clause-from : goal.returns-clause-from
returns-clause-from g c = rw (← c.self.view_is) (λ e has. elim (c.add.ensures.from 0 e has) [ inl was ↦ inl was | inr is ↦ inr is.1 ])
