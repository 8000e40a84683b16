use Rattle.std.proofs.Common.{◌∙◌, subst, refl, slice_index_or}
use Rattle.std.proofs.lemmas.Result.{err_from_is_err_and}
use Rattle.ifds_model.specs.declared.event.Event.{Event}
use Rattle.ifds_model.specs.declared.event.Event.TheVariants.{Take}
use Rattle.core_driver.specs.Played.{Plays, IsStopOf}
use Rattle.core_driver.proofs.Playing.{plays_limit, plays_workers, played_next, stopped_at}
use Rattle.core_driver.proofs.player.play.Goals as goal

pub loop-event-preserved : goal.loop-event-preserved
loop-event-preserved g c =
    let machine = g.P.Problem.machine c.args.state.now.problem in
    let reaches = g.P.Problem.reaches c.args.state.now.problem in
    let mid = c.loop-event.state.view in
    let new = c.play_event.new.state.view in
    let none : Event = Take 0 0 in
    let event = slice_index_or c.args.events.now c.loop-event.event-index none in
    let did = subst (λ p. Plays (g.P.Problem.machine p) (g.P.Problem.reaches p) event mid new) c.loop-event.invariant.problem c.in_ok-play_event.ensures.plays in
    record {
      problem = c.play_event.ensures.problem ∙ c.loop-event.invariant.problem;
      limit = plays_limit machine reaches event mid new did ∙ c.loop-event.invariant.limit;
      workers = plays_workers machine reaches event mid new did ∙ c.loop-event.invariant.workers;
      played = played_next machine reaches c.args.events.now c.loop-event.event-index none c.args.state.now.view mid new c.loop-event-test.true c.loop-event.invariant.played did;
    }

pub returns-in_err-play_event-clause-stopped : goal.returns-in_err-play_event-clause-stopped
returns-in_err-play_event-clause-stopped g c =
    let p = err_from_is_err_and c.from_residual.result c.from_residual.ensures.1 in
    let machine = g.P.Problem.machine c.args.state.now.problem in
    let reaches = g.P.Problem.reaches c.args.state.now.problem in
    let mid = c.loop-event.state.view in
    let none : Event = Take 0 0 in
    let event = slice_index_or c.args.events.now c.loop-event.event-index none in
    let stops = subst (λ q. IsStopOf (g.P.Problem.machine q) event mid c.in_err-play_event.field-0.0) c.loop-event.invariant.problem c.in_err-play_event.ensures.stopped in
    rw (p.1, p.2) (stopped_at machine reaches c.args.events.now c.loop-event.event-index none event c.args.state.now.view mid c.play_event.new.state.view _ c.loop-event-test.true refl c.loop-event.invariant.played c.in_err-play_event.ensures.same stops)
