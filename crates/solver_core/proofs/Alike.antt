-- Contracts can't tell states whose lists of held edges have the same members.
use Rattle.std.specs.Prelude.{List, Contains}
use Rattle.std.proofs.Common.{ap, inl, inr}
use Rattle.ifds_model.specs.declared.node.Context.{Context}
use Rattle.ifds_model.specs.declared.node.Frame.{Frame}
use Rattle.ifds_model.specs.declared.node.Move.{Move}
use Rattle.ifds_model.specs.declared.node.Move.TheVariants.{Go, Call, Exit, Mark}
use Rattle.ifds_model.specs.Machine.{Machine}
use Rattle.ifds_model.specs.State.{View, IsHeld}
use Rattle.ifds_model.specs.Sound.{IsTaken}
use Rattle.ifds_model.specs.Events.{TakesIn}
use Rattle.ifds_model.proofs.Members.{same_count}

module _ {F M : Type 0} (P : Machine F M) (e : Context F) (moves : Move F M → Type 0) (old new : View F M) (held : List (Frame F))
    (there : (a : Frame F) → IsHeld new a → Contains held a) (back : (a : Frame F) → Contains held a → IsHeld new a) where
  abbrev pub alike : View F M
  alike = record new { held = held }

  taken_there : (m : Move F M) → IsTaken new e m → IsTaken alike e m
  taken_there (Go node fact) taken = there _ taken
  taken_there (Call at d) taken = taken
  taken_there (Exit x) taken = taken
  taken_there (Mark m) taken = taken

  pub takes_alike : TakesIn P e moves old new → TakesIn P e moves old alike
  takes_alike t = record {
    live = t.live;
    retired = t.retired;
    held = λ a k. there a (t.held a k);
    callers = t.callers;
    exits = t.exits;
    marks = t.marks;
    taken = λ m of. taken_there m (t.taken m of);
    started = λ d k. elim (t.started d k) [ inl was ↦ inl was | inr each ↦ inr (λ n start. there _ (each n start)) ];
    live_from = t.live_from;
    retired_from = t.retired_from;
    held_from = λ a k. t.held_from a (back a k);
    callers_from = t.callers_from;
    exits_from = t.exits_from;
    marks_from = t.marks_from;
    added = t.added;
    queue = t.queue;
    once = t.once;
    queued = λ a k. t.queued a (back a k);
    met = t.met;
    edges_from = λ a k. let from = t.edges_from a k in (there a from.0, from.1);
    joins_from = t.joins_from;
    more = t.more;
    counted = same_count (λ a. IsHeld new a × (IsHeld old a → ⊥)) (λ a. IsHeld alike a × (IsHeld old a → ⊥)) t.more (λ a is. (there a is.0, is.1)) (λ a is. (back a is.0, is.1)) t.counted;
    found = t.found;
    rest = ap (λ (v : View F M). record v { held = held }) t.rest;
  }
