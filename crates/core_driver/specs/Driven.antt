-- What a driver does with a state, step by step, and what its refusals mean.
use Rattle.std.specs.Prelude.{◌≡◌, ◌≤◌, ◌<◌, ◌+◌, ℕ, suc, Bool, true, false, List, [], ◌∷◌, length, Contains, Option, Some, None}
use Rattle.ifds_model.specs.declared.node.Item.{Item}
use Rattle.ifds_model.specs.declared.node.Item.TheVariants.{Edge, Join}
use Rattle.ifds_model.specs.Machine.{Machine}
use Rattle.ifds_model.specs.Runs.{IsEdge, HasCount}
use Rattle.ifds_model.specs.State.{View}
use Rattle.solver_core.specs.Answers.{IsOver}
use Rattle.solver_core.specs.declared.answer.CommitStop.{CommitStop}
use Rattle.solver_core.specs.declared.answer.CommitStop.TheVariants.{EdgeLimit, OutOfMemory}
use Rattle.solver_core.specs.declared.answer.Taken.{Taken}
use Rattle.solver_core.specs.declared.answer.Taken.TheVariants.{Took, Idle, Finished}
use Rattle.core_driver.specs.More.{HasMoreThan}
use Rattle.core_driver.specs.declared.driver.Stepped.{Stepped}
use Rattle.core_driver.specs.declared.driver.Stepped.TheVariants.{Edge as EdgeStep, Join as JoinStep, Over}

-- how many joins a list of items has
abbrev pub joins : {F : Type 0} → List (Item F) → ℕ
joins [] = 0
joins (Edge c n f ∷ items) = joins items
joins (Join c at d x ∷ items) = suc (joins items)

-- the step that an item makes
abbrev pub kind_of : {F : Type 0} → Item F → Stepped
kind_of (Edge c n f) = EdgeStep
kind_of (Join c at d x) = JoinStep

-- the item that was taken, if one was
abbrev pub item_taken : {P F M : Type 0} → Taken P F M → Option (Item F)
item_taken (Took job) = Some job.item
item_taken (Idle n) = None
item_taken Finished = None

module _ {F M : Type 0} where
  -- why a state was not worked off. The limit is the cause only where the machine has more path edges than it allows;
  -- want of memory may always come
  abbrev pub IsRefused : Machine F M → ℕ → CommitStop → Type 0
  IsRefused P limit (EdgeLimit found) = HasMoreThan (IsEdge P) limit × ((n : ℕ) → HasCount (IsEdge P) n → limit < n) × (found ≡ limit + 1)
  IsRefused P limit OutOfMemory = Unit {0}

  -- there is a worker, and none has an item in hand
  pub record IsReady (s : View F M) : Type 0 where
    pub workers : 1 ≤ length s.flights
    pub idle : (item : Item F) → Contains s.flights (Some item) → ⊥

  -- the next step can be taken, under the same limit
  pub record GoesOn (old new : View F M) : Type 0 where
    pub ready : IsReady new
    pub limit : new.max_edges ≡ old.max_edges

  -- the commit of an edge, within the limit
  pub record HasCommitted (old new : View F M) : Type 0 where
    pub more : new.commits ≡ old.commits + 1
    pub within : new.commits ≤ new.max_edges

  -- the commit of a join, which queues none
  pub record HasJoined (old new : View F M) : Type 0 where
    pub commits : new.commits ≡ old.commits
    pub fewer : joins new.queue + 1 ≡ joins old.queue

  abbrev pub IsStep : Stepped → View F M → View F M → Type 0
  IsStep EdgeStep old new = HasCommitted old new
  IsStep JoinStep old new = HasJoined old new
  IsStep Over old new = IsOver new

  -- an edge was committed, or nothing is left to do
  abbrev pub HasGoneOn : Bool → View F M → View F M → Type 0
  HasGoneOn true old new = HasCommitted old new
  HasGoneOn false old new = IsOver new
