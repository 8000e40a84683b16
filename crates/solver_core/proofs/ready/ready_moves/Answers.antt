use Rattle.std.proofs.Common.{arith}
use Rattle.solver_core.specs.Room.{JoinsWithin, HasStarts}
use Rattle.solver_core.proofs.Prepared.{each_more, image_more}
use Rattle.solver_core.proofs.ready.ready_moves.Goals as goal

pub loop-step-preserved : goal.loop-step-preserved
loop-step-preserved g c =
    let inv = c.loop-step.invariant in
    let ready = c.in_ok-ready_move.field-0 in
    let did = c.in_ok-ready_move.ensures in
    let old = c.loop-step.readies.items in
    let new = c.push.new.self.items in
    let tables = c.args.tables.now in
    record {
      steps = image_more (λ r. r.step) old new ready c.args.moves.now c.loop-step.step-index c.step-item.result c.in_ok-push.ensures.items did.step (omega arith) c.step-item.is inv.steps;
      joins = each_more old new ready (λ r. JoinsWithin tables c.args.context c.args.kinds.calls c.args.kinds.exits r.joins r.step) c.in_ok-push.ensures.items inv.joins did.joins;
      starts = each_more old new ready (λ r. HasStarts (g.P.Problem.machine c.args.problem.now) tables r.starts.items r.step) c.in_ok-push.ensures.items inv.starts did.starts;
    }
