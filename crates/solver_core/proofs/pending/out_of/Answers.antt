use Rattle.std.proofs.Common.{arith}
use Rattle.solver_core.proofs.Flown.{in_hand_more}
use Rattle.solver_core.proofs.pending.out_of.Goals as goal

pub loop-flight-preserved : goal.loop-flight-preserved
loop-flight-preserved g c =
    let more = in_hand_more c.args.flights.now c.loop-flight.flight-index c.flight-item.result (omega arith) c.flight-item.is in
    record {
      count = omega (arith, more, c.one_of-out.ensures.count, c.loop-flight.invariant.count);
      few = omega (arith, c.one_of-out.ensures.few, c.loop-flight.invariant.few);
    }
