-- What the answers of a state's calls mean.
use Rattle.std.specs.Prelude.{◌≡◌, ◌⊎◌, ◌≤◌, ◌<◌, ◌+◌, ℕ, [], Some, None}
use Rattle.ifds_model.specs.declared.node.Item.{Item}
use Rattle.ifds_model.specs.Machine.{Machine}
use Rattle.ifds_model.specs.Runs.{HasCount}
use Rattle.ifds_model.specs.State.{View, At, context_of, MovesOf, IsHeld, IsPending}
use Rattle.ifds_model.specs.Events.{LeadsTo, Commits, GivesBack}
use Rattle.solver_core.specs.Hands.{in_hand}
use Rattle.solver_core.specs.declared.answer.Committed.{Committed}
use Rattle.solver_core.specs.declared.answer.Committed.TheVariants.{Done, GoneBack}
use Rattle.solver_core.specs.declared.answer.CommitStop.{CommitStop}
use Rattle.solver_core.specs.declared.answer.CommitStop.TheVariants.{EdgeLimit, OutOfMemory}

module _ {F M : Type 0} where
  -- nothing is left to do
  abbrev pub IsOver : View F M → Type 0
  IsOver s = (item : Item F) → IsPending s item → ⊥

  -- nothing waits, and so many items are in hand
  abbrev pub IsIdle : View F M → ℕ → Type 0
  IsIdle s n = (s.queue ≡ []) × (1 ≤ n) × (n ≡ in_hand s.flights)

  -- what became of an item's outcome: the worker had the item in hand, and its moves were taken in; or it hadn't, and what
  -- it had in hand went back, where it had anything
  abbrev pub IsCommitted : Machine F M → ℕ → Item F → View F M → View F M → Committed → Type 0
  IsCommitted P worker item old new Done = At old.flights worker (Some item) × Commits P worker old new
  IsCommitted P worker item old new GoneBack = (At old.flights worker (Some item) → ⊥) × (GivesBack worker old new ⊎ (At old.flights worker None × (new ≡ old)))

  -- the edges that the item's moves lead to and that aren't held would raise found above the limit
  abbrev pub PassesLimit : Machine F M → Item F → View F M → Type 0
  PassesLimit P item s = (k : ℕ) × HasCount (λ a. LeadsTo P (context_of item) (MovesOf P item) s a × (IsHeld s a → ⊥)) k × (s.max_edges < s.found + k)

  -- why an item's moves weren't taken in. Want of memory may always come
  abbrev pub IsStopped : Machine F M → Item F → View F M → CommitStop → Type 0
  IsStopped P item s (EdgeLimit found) = PassesLimit P item s × (found ≡ s.max_edges + 1)
  IsStopped P item s OutOfMemory = Unit {0}
