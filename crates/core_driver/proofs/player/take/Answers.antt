use Rattle.std.proofs.Common.{arith}
use Rattle.core_driver.proofs.Playing.{take_plays}
use Rattle.core_driver.proofs.player.take.Goals as goal

pub returns-clause-plays : goal.returns-clause-plays
returns-clause-plays g c =
    let p = c.args.state.now.problem in
    take_plays (g.P.Problem.machine p) (g.P.Problem.reaches p) c.args.state.now.view c.args.worker c.args.place c.take-taken.new.self.view c.take-taken.result (c.has_flight.ensures.idle.0 c.if-has_flight.false) (omega (arith, c.queued.ensures, c.if-place-queued.false)) c.take-taken.ensures.took c.take-taken.ensures.idle c.take-taken.ensures.finished
