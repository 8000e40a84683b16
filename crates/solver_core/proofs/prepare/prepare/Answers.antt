use Rattle.std.proofs.Common.{ap, subst, sym, ◌∙◌, ℕ, Contains}
use Rattle.std.specs.List.{sum_by}
use Rattle.solver_core.specs.Gathered.{KeepsWithin}
use Rattle.solver_core.specs.Room.{call_count, calls_of, edges_of, exit_count, leaves_of}
use Rattle.solver_core.proofs.Prepared.{step_of, sum_of_steps}
use Rattle.solver_core.proofs.prepare.prepare.Goals as goal

pub make_room-requires-clause-joins : goal.make_room-requires-clause-joins
make_room-requires-clause-joins g c = λ r has. c.in-Ok.ensures.joins r (subst (λ xs. Contains xs r) c.as_slice-2.ensures.value has)

pub make_room-requires-clause-calls : goal.make_room-requires-clause-calls
make_room-requires-clause-calls g c = c.kinds_of-kinds.ensures.calls ∙ sum_of_steps call_count c.in-Ok.readies.items c.args.moves.now c.in-Ok.ensures.steps ∙ ap (sum_by calls_of) (sym c.as_slice-2.ensures.value)

pub make_room-requires-clause-exits : goal.make_room-requires-clause-exits
make_room-requires-clause-exits g c = c.kinds_of-kinds.ensures.exits ∙ sum_of_steps exit_count c.in-Ok.readies.items c.args.moves.now c.in-Ok.ensures.steps ∙ ap (sum_by leaves_of) (sym c.as_slice-2.ensures.value)

pub make_room-requires-clause-stand : goal.make_room-requires-clause-stand
make_room-requires-clause-stand g c = (
  c.requires.stand.0,
  λ r has. c.requires.stand.1 r.step (step_of c.in-Ok.readies.items c.args.moves.now c.in-Ok.ensures.steps r (subst (λ xs. Contains xs r) c.as_slice-2.ensures.value has)),
)

pub returns-clause-within : goal.returns-clause-within
returns-clause-within g c = subst (λ (n : ℕ). KeepsWithin (g.P.Problem.machine c.args.problem.now) c.args.parts.now c.args.context c.args.moves.now n c.args.max_edges) (c.in-Ok-edge_count.ensures ∙ ap (sum_by edges_of) c.as_slice.ensures.value) c.in_ok-keep_limit.ensures.within
