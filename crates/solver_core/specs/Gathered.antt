-- Lists that gather sets, and the edges that moves would add to a state.
use Rattle.std.specs.Prelude.{◌≡◌, ◌⊎◌, ◌≤◌, ◌<◌, ◌+◌, ℕ, List, length, Contains}
use Rattle.ifds_model.specs.declared.node.Context.{Context}
use Rattle.ifds_model.specs.declared.node.Frame.{Frame}
use Rattle.ifds_model.specs.declared.node.Move.{Move}
use Rattle.ifds_model.specs.Events.{LeadsTo}
use Rattle.ifds_model.specs.Machine.{Machine}
use Rattle.ifds_model.specs.Runs.{HasCount}
use Rattle.ifds_model.specs.State.{View, IsDistinct, IsHeld}
use Rattle.solver_core.specs.Numbers.{context_at}
use Rattle.solver_core.specs.Seen.{view_of_parts}
use Rattle.solver_core.specs.declared.answer.CommitStop.{CommitStop}
use Rattle.solver_core.specs.declared.answer.CommitStop.TheVariants.{EdgeLimit, OutOfMemory}
use Rattle.solver_core.specs.declared.parts.Parts.{Parts}

-- the new list has what the old one has and the members of the set, no others, and no repeats that weren't there
pub record Gathers {X : Type 0} (set : X → Type 0) (old new : List X) : Type 0 where
  pub distinct : IsDistinct old → IsDistinct new
  pub kept : (x : X) → Contains old x → Contains new x
  pub there : (x : X) → set x → Contains new x
  pub from : (x : X) → Contains new x → Contains old x ⊎ set x

-- a member of the set of some item of the list
abbrev pub IsOfEach : {X Y : Type 0} → (Y → X → Type 0) → List Y → X → Type 0
IsOfEach {X} {Y} set ys x = (y : Y) × Contains ys y × set y x

module _ {F M : Type 0} where
  -- moves in a context lead to the frame, and it isn't held
  abbrev pub IsNew : Machine F M → Context F → (Move F M → Type 0) → View F M → Frame F → Type 0
  IsNew P e moves s a = LeadsTo P e moves s a × (IsHeld s a → ⊥)

  -- the same by numbers: what a state counts doesn't matter
  abbrev pub IsNewTo : Machine F M → Parts F M → ℕ → (Move F M → Type 0) → Frame F → Type 0
  IsNewTo P parts context moves a = IsNew P (context_at P.root parts.tables.contexts context) moves (view_of_parts P parts 0 0 0 0 0) a

  -- so many edges at most keep within the limit, or so many new ones as these moves lead to
  abbrev pub KeepsWithin : Machine F M → Parts F M → ℕ → List (Move F M) → ℕ → ℕ → Type 0
  KeepsWithin P parts context moves most limit = (parts.edges.held.found + most ≤ limit)
      ⊎ ((k : ℕ) × HasCount (IsNewTo P parts context (λ m. Contains moves m)) k × (parts.edges.held.found + k ≤ limit))

  -- the new edges to which these moves lead pass the limit. Want of memory may always come
  abbrev pub IsPassed : Machine F M → Parts F M → ℕ → List (Move F M) → ℕ → CommitStop → Type 0
  IsPassed P parts context moves limit (EdgeLimit found) = ((k : ℕ) × HasCount (IsNewTo P parts context (λ m. Contains moves m)) k × (limit < parts.edges.held.found + k)) × (found ≡ limit + 1)
  IsPassed P parts context moves limit OutOfMemory = Unit {0}
