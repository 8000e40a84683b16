use Rattle.std.proofs.Common.{◌≡◌, length, take}
use Rattle.core_driver.specs.Played.{Played}
use Rattle.core_driver.proofs.player.play.Given as goal

abbrev pub invariant-loop-event : goal.invariant-loop-event
invariant-loop-event g l = record {
  problem : l.state.problem ≡ l.fn.state.problem;
  limit : l.state.view.max_edges ≡ l.fn.state.view.max_edges;
  workers : length l.state.view.flights ≡ length l.fn.state.view.flights;
  played : Played (g.P.Problem.machine l.fn.state.problem) (g.P.Problem.reaches l.fn.state.problem) (take l.event-index l.events) l.fn.state.view l.state.view;
}
