use Rattle.std.proofs.Common.{arith, ◌≡◌, subst}
use Rattle.entry_tables.specs.Tables.{call_site}
use Rattle.solver_core.proofs.Used.{uses_more}
use Rattle.ifds_model.specs.declared.node.Move.TheVariants.{Call}
use Rattle.ifds_model.specs.Events.{TakesIn}
use Rattle.solver_core.specs.Numbers.{context_at}
use Rattle.solver_core.specs.Seen.{view_of_parts}
use Rattle.solver_core.proofs.MovesTaken.{number_at}
use Rattle.solver_core.proofs.intake.take_call.Goals as goal

pub returns-in-Some-clause-taken : goal.returns-in-Some-clause-taken
returns-in-Some-clause-taken g c = λ commits lag takes period max_edges.
    let machine = g.P.Problem.machine c.args.problem.now in
    let parts = c.args.parts.now in
    subst (λ d. TakesIn machine (context_at machine.root parts.tables.contexts c.args.context) (λ m. m ≡ Call c.args.at d) (view_of_parts machine parts commits lag takes period max_edges) (view_of_parts machine c.take_known.new.parts commits lag takes period max_edges))
    (number_at machine.root parts.tables.contexts c.in-Some.number c.args.callee c.in-Some.ensures.there)
    (c.take_known.ensures.taken commits lag takes period max_edges)

pub returns-in-Some-clause-uses : goal.returns-in-Some-clause-uses
returns-in-Some-clause-uses g c = uses_more c.args.parts.now.tables c.take_known.new.parts.tables (call_site c.args.context c.args.at) 0 1 0 1 1 0 (omega arith) (omega arith) (omega arith) c.take_known.ensures.uses
