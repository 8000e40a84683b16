use Rattle.std.proofs.Common.{arith, ◌∙◌}
use Rattle.solver_core.specs.Room.{HasCallerRoom}
use Rattle.solver_core.proofs.Gathered.{on_ok}
use Rattle.solver_core.proofs.Prepared.{callers_kept, take_each, whole_each}
use Rattle.solver_core.proofs.room.make_entry_room.Goals as goal

pub loop-ready-preserved : goal.loop-ready-preserved
loop-ready-preserved g c =
    let inv = c.loop-ready.invariant in
    let did = c.make_caller_room.ensures in
    let new = c.make_caller_room.new.tables in
    record {
      same = (did.same.0 ∙ inv.same.0, did.same.1 ∙ inv.same.1, did.same.2 ∙ inv.same.2);
      exits = omega (arith, inv.exits, did.kept.exits c.args.context);
      callers = take_each c.args.readies.now c.loop-ready.ready-index c.ready-item.result (λ r. HasCallerRoom new c.args.context r.step) (omega arith) c.ready-item.is
          (λ r has. callers_kept c.loop-ready.tables new c.args.context r.step did.same.0 did.same.1 did.kept.callers (inv.callers r has))
          (c.in_ok-make_caller_room.ensures.room);
    }

pub returns-clause-same : goal.returns-clause-same
returns-clause-same g c =
    let inv = c.loop-ready.invariant in
    let did = c.reserve_contexts.ensures in
    (did.same.0 ∙ inv.same.0, did.same.1 ∙ inv.same.1, did.same.2 ∙ inv.same.2)

pub returns-clause-exits : goal.returns-clause-exits
returns-clause-exits g c =
    on_ok c.reserve_contexts.result _ _ (λ ready. omega (arith, c.loop-ready.invariant.exits, c.reserve_contexts.ensures.kept.exits c.args.context)) c.reserve_contexts.ensures.ok

pub returns-clause-callers : goal.returns-clause-callers
returns-clause-callers g c =
    let did = c.reserve_contexts.ensures in
    on_ok c.reserve_contexts.result _ _
    (λ ready r has. callers_kept c.loop-ready.tables c.reserve_contexts.new.self c.args.context r.step did.same.0 did.same.1 did.kept.callers
    (whole_each c.args.readies.now c.loop-ready.ready-index (λ q. HasCallerRoom c.loop-ready.tables c.args.context q.step) (omega arith) c.loop-ready.invariant.callers r has))
    did.ok
