use Rattle.std.proofs.Common.{inl, inr, sym, ◌∙◌}
use Rattle.core_tests.specs.Example.{LastStart}
use Rattle.core_tests.proofs.Two.{two_added}
use Rattle.core_tests.proofs.example.add_last_starts.Goals as goal

pub returns-in_ok-push-2 : goal.returns-in_ok-push-2
returns-in_ok-push-2 c =
    two_added (LastStart c.args.recursive) c.args.out.now.items c.push.new.self.items c.push-then-recursive.new.self.items c.before-2.result c.before-then-recursive.result c.in_ok-push.ensures.items c.in_ok-push-2.ensures.items
    (λ n s. elim s [ inl last ↦ inl (last ∙ sym c.before-2.ensures) | inr first ↦ inr (first.1 ∙ sym c.before-then-recursive.ensures) ])
    (inl c.before-2.ensures)
    (inr (c.if-recursive.true, c.before-then-recursive.ensures))
