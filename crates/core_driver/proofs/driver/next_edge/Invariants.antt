use Rattle.std.proofs.Common.{◌≡◌}
use Rattle.core_driver.specs.Driven.{IsReady, joins}
use Rattle.core_driver.proofs.driver.next_edge.Given as goal

abbrev pub invariant-loop : goal.invariant-loop
invariant-loop g l = record {
  ready : IsReady l.state.view;
  limit : l.state.view.max_edges ≡ l.fn.state.view.max_edges;
  commits : l.state.view.commits ≡ l.fn.state.view.commits;
  problem : l.state.problem ≡ l.fn.state.problem;
}

abbrev pub decreases-loop : goal.decreases-loop
decreases-loop g l = joins l.state.view.queue
