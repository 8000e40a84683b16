use Rattle.std.proofs.Common.{inl, inr, arith}
use Rattle.clean_base.proofs.Appended.{appends_same}
use Rattle.core_tests.specs.Example.{LastStart, Start}
use Rattle.core_tests.proofs.example.ExampleProblem.starts.Goals as goal

pub returns-in_ok-add_last_starts-in-1 : goal.returns-in_ok-add_last_starts-in-1
returns-in_ok-add_last_starts-in-1 c =
    appends_same (LastStart c.args.self.now.recursive) (Start c.args.self.now.recursive c.args.context.now) c.args.out.now.items c.add_last_starts.new.out.items
    (λ n. ((λ s. elim s [ inl zero ↦ absurd (omega (arith, zero.0, c.in-1.is)) | inr one ↦ one.1 ]), (λ last. inr (c.in-1.is, last))))
    c.in_ok-add_last_starts-in-1.ensures
