use Rattle.std.proofs.Common.{◌≡◌, ◌-◌}
use Rattle.core_driver.specs.Driven.{IsReady}
use Rattle.core_driver.proofs.driver.work_off.Given as goal

abbrev pub invariant-loop : goal.invariant-loop
invariant-loop g l = record {
  ready : IsReady l.state.view;
  limit : l.state.view.max_edges ≡ l.fn.state.view.max_edges;
  problem : l.state.problem ≡ l.fn.state.problem;
}

abbrev pub decreases-loop : goal.decreases-loop
decreases-loop g l = l.state.view.max_edges - l.state.view.commits
