-- What a step does: an item is taken and committed, or nothing is left.
use Rattle.std.specs.Prelude.{◌≡◌, ◌≤◌, ◌+◌, ◌++◌, List, length, slice_set, remove, Contains, Option, Some, None}
use Rattle.std.proofs.Common.{arith, sym, ◌∙◌, ap, subst, inl, inr}
use Rattle.std.proofs.Math.ListN.{length-set}
use Rattle.ifds_model.specs.declared.node.Item.{Item}
use Rattle.ifds_model.specs.declared.node.Item.TheVariants.{Edge, Join}
use Rattle.ifds_model.specs.Machine.{Machine}
use Rattle.ifds_model.specs.State.{View, At}
use Rattle.ifds_model.specs.Events.{commits_of, Takes, Commits}
use Rattle.ifds_model.proofs.Members.{at_one, at_set, at_set_same}
use Rattle.ifds_model.proofs.Requeued.{some_same, emptied_other}
use Rattle.core_driver.specs.Driven.{joins, kind_of, IsReady, GoesOn, IsStep}
use Rattle.core_driver.proofs.Left.{joins_append, first_join, none_added}

-- the item that was taken is in hand
pub hand_now : {F M : Type 0} (old mid : View F M) (item : Item F) → At old.queue 0 item → Takes 0 0 old mid → At mid.flights 0 (Some item)
hand_now {F} {M} old mid item first t =
    let flights : mid.flights ≡ slice_set old.flights 0 (Some t.item) = ap (λ (v : View F M). v.flights) t.is in
    let there : At mid.flights 0 (Some t.item) = subst (λ (fs : List (Option (Item F))). At fs 0 (Some t.item)) (sym flights) (at_set_same old.flights 0 (Some t.item) t.idle.0) in
    subst (λ (i : Item F). At mid.flights 0 (Some i)) (at_one old.queue 0 t.item item t.at first) there

module _ {F M : Type 0} (P : Machine F M) (old mid new : View F M) (item : Item F) (first : At old.queue 0 item) (t : Takes 0 0 old mid) (c : Commits P 0 mid new) where
  flights_mid : mid.flights ≡ slice_set old.flights 0 (Some t.item)
  flights_mid = ap (λ (v : View F M). v.flights) t.is

  item_taken_is : c.item ≡ item
  item_taken_is = some_same c.item item (at_one mid.flights 0 (Some c.item) (Some item) c.flies (hand_now old mid item first t))

  commits_now : new.commits ≡ old.commits + commits_of item
  commits_now =
      let before : mid.commits ≡ old.commits = ap (λ (v : View F M). v.commits) t.is in
      let now : new.commits ≡ mid.commits + commits_of c.item = ap (λ (v : View F M). v.commits) c.takes_in.rest in
      let kind : commits_of c.item ≡ commits_of item = ap commits_of item_taken_is in
      omega (arith, before, now, kind)

  queue_now : new.queue ≡ remove old.queue 0 ++ c.takes_in.added
  queue_now = c.takes_in.queue ∙ ap (λ (v : View F M). v.queue ++ c.takes_in.added) t.is

  pub step_ready : IsReady old → GoesOn old new
  step_ready ready =
      let flights : new.flights ≡ slice_set mid.flights 0 None = ap (λ (v : View F M). v.flights) c.takes_in.rest in
      record {
        ready = record {
          workers = let long : 1 ≤ length (slice_set mid.flights 0 None) = subst (λ (fs : List (Option (Item F))). 1 ≤ length (slice_set fs 0 None)) (sym flights_mid) (omega (arith, length-set {A = Option (Item F)}, ready.workers)) in subst (λ (fs : List (Option (Item F))). 1 ≤ length fs) (sym flights) long;
          idle = λ i has.
              let there = subst (λ (fs : List (Option (Item F))). Contains fs (Some i)) flights has in
              let was = emptied_other mid.flights 0 c.item c.flies i there.0 (there.1, there.2) in
              elim (at_set old.flights 0 there.0 (Some t.item) (Some i) t.idle.0 (subst (λ (fs : List (Option (Item F))). At fs there.0 (Some i)) flights_mid was.1)) [
                | inl same ↦ was.0 same.0
                | inr other ↦ ready.idle i (there.0, other.1.0, other.1.1)
              ];
        };
        limit = let one : new.max_edges ≡ mid.max_edges = ap (λ (v : View F M). v.max_edges) c.takes_in.rest in one ∙ ap (λ (v : View F M). v.max_edges) t.is;
      }

pub step_kind : {F M : Type 0} (P : Machine F M) (old mid new : View F M) (item : Item F) → At old.queue 0 item → Takes 0 0 old mid → Commits P 0 mid new → new.commits ≤ new.max_edges → IsStep (kind_of item) old new
step_kind P old mid new (Edge c n f) first t commits within = record { more = commits_now P old mid new (Edge c n f) first t commits; within = within }
step_kind P old mid new (Join c at d x) first t commits within = record {
  commits = omega (arith, commits_now P old mid new (Join c at d x) first t commits);
  fewer =
      let queue = queue_now P old mid new (Join c at d x) first t commits in
      let sum = ap joins queue ∙ joins_append (remove old.queue 0) commits.takes_in.added in
      let less = first_join old.queue c at d x first in
      let none = none_added P commits.item c at d x (item_taken_is P old mid new (Join c at d x) first t commits) _ _ _ commits.takes_in in
      omega (arith, sum, less, none);
}
