-- The limit: a commit that would pass it shows more path edges.
use Rattle.std.specs.Prelude.{◌≢◌, ◌++◌}
use Rattle.std.proofs.Common.{arith, sym, subst, inl, inr, length-append}
use Rattle.std.proofs.lemmas.List.Elements.{Contains-append_cases}
use Rattle.ifds_model.specs.declared.node.Frame.{Frame}
use Rattle.ifds_model.specs.declared.node.Item.{Item}
use Rattle.ifds_model.specs.Machine.{Machine}
use Rattle.ifds_model.specs.Runs.{opened, IsEdge, IsContext}
use Rattle.ifds_model.specs.Local.{starts, edge_local}
use Rattle.ifds_model.specs.State.{View, IsTidy, at_node, context_of, MovesOf, IsHeld, IsRetired, IsPending}
use Rattle.ifds_model.specs.Sound.{IsSound, IsFound}
use Rattle.ifds_model.specs.Events.{LeadsTo}
use Rattle.ifds_model.proofs.Kept.{IsInHand, in_hand, pairs_append}
use Rattle.ifds_model.proofs.Quiet.{live_or_retired}
use Rattle.solver_core.specs.Answers.{PassesLimit, IsStopped}
use Rattle.solver_core.specs.declared.answer.CommitStop.{CommitStop}
use Rattle.solver_core.specs.declared.answer.CommitStop.TheVariants.{EdgeLimit, OutOfMemory}
use Rattle.core_driver.specs.Driven.{IsRefused}
use Rattle.core_driver.specs.More.{HasMoreThan, no_count}

module _ {F M : Type 0} (P : Machine F M) (s : View F M) (sound : IsSound P s) where
  found_edge : (a : Frame F) → IsFound P s a → IsEdge P a
  found_edge a (inl held) = (sound.held.edges a held).0
  found_edge a (inr gone) = gone.1

  module _ (tidy : IsTidy s) (item : Item F) (pending : IsPending s item) where
    hand : IsInHand P s item
    hand = in_hand P s sound item pending

    leads_edge : (a : Frame F) → LeadsTo P (context_of item) (MovesOf P item) s a → IsEdge P a
    leads_edge a (inl go) = subst (IsEdge P) (sym go.3) (hand.goes go.0 go.1 go.2)
    leads_edge a (inr call) =
        let from = hand.calls call.0 call.1 call.3 in
        let context : IsContext P call.1 = inr (at_node (context_of item) from.node from.fact, call.0, from.edge, from.move) in
        subst (IsEdge P) (sym call.6) (edge_local P (opened call.1 call.2) context (starts call.5))

    leads_live : (a : Frame F) → LeadsTo P (context_of item) (MovesOf P item) s a → IsRetired s a.context → ⊥
    leads_live a (inl go) retired = live_or_retired s tidy (context_of item) hand.live (subst (λ (b : Frame F). IsRetired s b.context) go.3 retired)
    leads_live a (inr call) retired = call.4 (inr (subst (λ (b : Frame F). IsRetired s b.context) call.6 retired))

    not_found : (a : Frame F) → LeadsTo P (context_of item) (MovesOf P item) s a → (IsHeld s a → ⊥) → IsFound P s a → ⊥
    not_found a leads fresh (inl held) = fresh held
    not_found a leads fresh (inr gone) = leads_live a leads gone.0

    pub passed : PassesLimit P item s → HasMoreThan (IsEdge P) s.max_edges
    passed passes =
        let found = sound.counts.found in
        let fresh = passes.1 in
        record {
          list = found.0 ++ fresh.0;
          distinct = pairs_append (λ a b. a ≢ b) found.0 fresh.0 found.1.distinct fresh.1.distinct (λ a b was is same. not_found b (fresh.1.sound b is).0 (fresh.1.sound b is).1 (subst (IsFound P s) same (found.1.sound a was)));
          members = λ a has. elim (Contains-append_cases found.0 fresh.0 a has) [
            | inl was ↦ found_edge a (found.1.sound a was)
            | inr is ↦ leads_edge a (fresh.1.sound a is).0
          ];
          longer = omega (arith, length-append found.0 fresh.0, found.2, fresh.2, passes.2);
        }

    pub refused : (e : CommitStop) → IsStopped P item s e → IsRefused P s.max_edges e
    refused (EdgeLimit found) stopped = let more = passed stopped.0 in (more, no_count (IsEdge P) s.max_edges more, stopped.1)
    refused OutOfMemory stopped = tt
