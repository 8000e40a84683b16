use Rattle.std.proofs.Common.{arith, ◌≤◌, ◌+◌, length}
use Rattle.entry_tables.specs.Tables.{exits_of}
use Rattle.solver_core.proofs.Prepared.{of_number}
use Rattle.solver_core.proofs.ready.ready_call.Goals as goal

pub returns-clause-joins : goal.returns-clause-joins
returns-clause-joins g c = of_number c.args.tables.now.contexts c.requires.distinct c.args.callee c.in-Some.number c.in-Some.ensures.there (λ k. length (exits_of c.args.tables.now k) + c.args.exits ≤ c.bare.result.joins) (omega (arith, c.exit_count.ensures.count, c.in_ok-joins.ensures, c.bare.ensures.joins))
