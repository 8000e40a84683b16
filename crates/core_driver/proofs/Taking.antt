-- What taking an item tells, and what it leaves to say of a step's result.
use Rattle.std.specs.Prelude.{◌≡◌, ◌≤◌, ℕ, Some, None, Result, Ok, Err, IfOk, OnOk, IfErr}
use Rattle.std.proofs.Common.{arith, sym, ap, subst, refl}
use Rattle.ifds_model.specs.declared.node.Item.{Item}
use Rattle.ifds_model.specs.Machine.{Machine}
use Rattle.ifds_model.specs.State.{View, At}
use Rattle.ifds_model.specs.Events.{Takes, Commits}
use Rattle.ifds_model.proofs.Requeued.{none_apart, some_same}
use Rattle.solver_core.specs.Answers.{IsOver, IsIdle}
use Rattle.solver_core.specs.declared.answer.CommitStop.{CommitStop}
use Rattle.solver_core.specs.declared.answer.Job.{Job}
use Rattle.solver_core.specs.declared.answer.Taken.{Taken}
use Rattle.solver_core.specs.declared.answer.Taken.TheVariants.{Took, Idle, Finished}
use Rattle.core_driver.specs.Driven.{IsRefused, IsReady, GoesOn, IsStep, kind_of, item_taken}
use Rattle.core_driver.specs.declared.driver.Stepped.{Stepped}
use Rattle.core_driver.proofs.Hands.{none_out}
use Rattle.core_driver.proofs.Steps.{step_ready, step_kind}

module _ {Q F M : Type 0} (old mid : View F M) where
  -- the item that was taken stood first
  pub taken_first : (r : Taken Q F M) (item : Item F) → item_taken r ≡ Some item → ((job : Job Q F M) → r ≡ Took job → Takes 0 0 old mid × At old.queue 0 job.item × (job.take ≡ mid.takes)) → Takes 0 0 old mid × At old.queue 0 item
  taken_first (Took job) item is took = let t = took job refl in (t.0, subst (At old.queue 0) (some_same job.item item is) t.1)
  taken_first (Idle n) item is took = absurd (none_apart item is)
  taken_first Finished item is took = absurd (none_apart item is)

  -- where no item was taken, and none was in hand, nothing is left to do
  pub over_now : IsReady old → (r : Taken Q F M) → item_taken r ≡ None → ((n : ℕ) → r ≡ Idle n → IsIdle old n × (mid ≡ old)) → (r ≡ Finished → IsOver old × (mid ≡ old)) → IsOver mid × GoesOn old mid
  over_now ready (Took job) is idle finished = absurd (none_apart job.item (sym is))
  over_now ready (Idle n) is idle finished = let out = idle n refl in absurd (omega (arith, none_out old.flights ready.idle, out.0.1, out.0.2))
  over_now ready Finished is idle finished =
      let is_over = finished refl in (
        subst IsOver (sym is_over.1) is_over.0,
        record { ready = subst IsReady (sym is_over.1) ready; limit = ap (λ (v : View F M). v.max_edges) is_over.1 },
      )

module _ {F M : Type 0} (P : Machine F M) (old mid new : View F M) (item : Item F) (first : At old.queue 0 item) (t : Takes 0 0 old mid) where
  pub ready_now : (r : Result Stepped CommitStop) → OnOk r (Commits P 0 mid new) → IsReady old → OnOk r (GoesOn old new)
  ready_now (Ok s) c ready = step_ready P old mid new item first t c ready
  ready_now (Err e) c ready = tt

  pub stepped_now : (r : Result Stepped CommitStop) → OnOk r (Commits P 0 mid new) → OnOk r (new.commits ≤ new.max_edges) → IfOk r (λ s. s ≡ kind_of item) → IfOk r (λ s. IsStep s old new)
  stepped_now (Ok s) c within kind = subst (λ (k : Stepped). IsStep k old new) (sym kind) (step_kind P old mid new item first t c within)
  stepped_now (Err e) c within kind = tt

-- the machine and the limit stay
pub refused_now : {Q F M : Type 0} (machine : Q → Machine F M) (p q : Q) → q ≡ p → (old mid : View F M) → Takes 0 0 old mid → (r : Result Stepped CommitStop) → IfErr r (λ e. IsRefused (machine q) mid.max_edges e) → IfErr r (λ e. IsRefused (machine p) old.max_edges e)
refused_now {Q} {F} {M} machine p q same old mid t (Ok s) refused = tt
refused_now {Q} {F} {M} machine p q same old mid t (Err e) refused =
    let limit : mid.max_edges ≡ old.max_edges = ap (λ (v : View F M). v.max_edges) t.is in
    subst (λ (z : Q). IsRefused (machine z) old.max_edges e) same (subst (λ (n : ℕ). IsRefused (machine q) n e) limit refused)
