use Rattle.std.proofs.Common.{sym, true≢false}
use Rattle.app_program.proofs.Entered.{concrete_there, not_given}
use Rattle.app_program.proofs.entry.is_concrete.Goals as goal

pub is_concrete-requires : goal.is_concrete-requires
is_concrete-requires c = ((c.find.ensures.found c.in-Some.class).0 c.in-Some.is).0

pub returns-in-Some : goal.returns-in-Some
returns-in-Some c =
    concrete_there c.args.table.now c.args.name.now c.in-Some.class.0 ((c.find.ensures.found c.in-Some.class).0 c.in-Some.is) c.is_concrete.result c.is_concrete.ensures

pub returns-in-None : goal.returns-in-None
returns-in-None c = ((λ yes. absurd (true≢false (sym yes))), (λ is. absurd (not_given c.args.table.now c.args.name.now c.in-None.ensures.given is)))
