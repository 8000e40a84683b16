use Rattle.std.proofs.Common.{◌≡◌, ◌<◌, ℕ, length, None}
use Rattle.ifds_model.specs.State.{At}
use Rattle.core_driver.proofs.driver.give_all_back.Given as goal

abbrev pub invariant-loop-w : goal.invariant-loop-w
invariant-loop-w g l = record {
  back : (k : ℕ) → k < l.w → At l.state.view.flights k None;
  workers : l.workers ≡ length l.state.view.flights;
  limit : l.state.view.max_edges ≡ l.fn.state.view.max_edges;
  problem : l.state.problem ≡ l.fn.state.problem;
}
