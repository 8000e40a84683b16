-- The room that moves need before they are taken in, so that taking them in needs no memory, and what taking one in uses.
use Rattle.std.specs.Prelude.{◌≡◌, ◌⊎◌, ◌↔◌, ◌≤◌, ◌<◌, ◌+◌, ℕ, List, length, slice_index, Contains, vec_len, vec_capacity}
use Rattle.std.specs.List.{sum_by}
use Rattle.std.specs.VecDeque.{deque_len, deque_capacity}
use Rattle.clean_base.specs.declared.ids.StmtId.{StmtId}
use Rattle.entry_tables.specs.Tables.{Tables, call_site, callers_of, exits_of}
use Rattle.entry_tables.specs.declared.tables.CallSite.{CallSite}
use Rattle.ifds_model.specs.declared.node.Context.{Context}
use Rattle.ifds_model.specs.declared.node.Move.{Move}
use Rattle.ifds_model.specs.declared.node.Move.TheVariants.{Go, Call, Exit, Mark}
use Rattle.ifds_model.specs.declared.node.Node.{Node}
use Rattle.ifds_model.specs.Machine.{Machine}
use Rattle.ifds_model.specs.State.{At}
use Rattle.solver_core.specs.declared.parts.Parts.{Parts}
use Rattle.solver_core.specs.declared.ready.Ready.{Ready}

-- one for a call, and one for an exit
abbrev pub call_count : {F M : Type 0} → Move F M → ℕ
call_count (Go node fact) = 0
call_count (Call at d) = 1
call_count (Exit x) = 0
call_count (Mark m) = 0

abbrev pub exit_count : {F M : Type 0} → Move F M → ℕ
exit_count (Go node fact) = 0
exit_count (Call at d) = 0
exit_count (Exit x) = 1
exit_count (Mark m) = 0

-- a call stands at this statement
abbrev pub StandsAt : {F M : Type 0} → StmtId → Move F M → Type 0
StandsAt at (Go node fact) = Unit {0}
StandsAt at (Call here d) = here ≡ at
StandsAt at (Exit x) = Unit {0}
StandsAt at (Mark m) = Unit {0}

-- all calls stand at one statement
abbrev pub StandTogether : {F M : Type 0} → List (Move F M) → Type 0
StandTogether {F} {M} moves = (at : StmtId) × ((m : Move F M) → Contains moves m → StandsAt at m)

module _ {F : Type 0} where
  -- the context with this number has the caller, or room for one
  abbrev pub HasPlaceFor : CallSite → Tables F → ℕ → Type 0
  HasPlaceFor site t k = Contains (callers_of t k) site ⊎ (0 < slice_index t.spare_callers k)

  -- at most so many contexts came, and so many callers and exits of each, and used the room for them; a caller that came
  -- is this one
  pub record Uses (site : CallSite) (contexts callers exits : ℕ) (old new : Tables F) : Type 0 where
    pub at : (k : ℕ) (d : Context F) → At old.contexts k d → At new.contexts k d
    -- a context that came has its place for the caller
    pub from : (k : ℕ) (d : Context F) → At new.contexts k d → At old.contexts k d
        ⊎ ((Contains old.contexts d → ⊥) × (0 < old.first_callers → HasPlaceFor site new k) × (length (exits_of new k) ≤ exits))
    pub room : old.spare_contexts ≤ new.spare_contexts + contexts
    pub first : new.first_callers ≡ old.first_callers
    pub callers_more : (k : ℕ) → length (callers_of new k) ≤ length (callers_of old k) + callers
    pub exits_more : (k : ℕ) → length (exits_of new k) ≤ length (exits_of old k) + exits
    pub places : (k : ℕ) → HasPlaceFor site old k → HasPlaceFor site new k
    pub spare_exits : (k : ℕ) → slice_index old.spare_exits k ≤ slice_index new.spare_exits k + exits

module _ {F M : Type 0} where
  -- how many edges a move holds at most, and how many items it queues at most
  abbrev pub edges_of : Ready F M → ℕ
  edges_of r = length r.starts.items + 1

  abbrev pub works_of : Ready F M → ℕ
  works_of r = edges_of r + r.joins

  -- how many calls and exits a move that is ready makes
  abbrev pub calls_of : Ready F M → ℕ
  calls_of r = call_count r.step

  abbrev pub leaves_of : Ready F M → ℕ
  leaves_of r = exit_count r.step

  -- while so many calls and exits are left, the move queues no more joins than these
  abbrev pub JoinsWithin : Tables F → ℕ → ℕ → ℕ → ℕ → Move F M → Type 0
  JoinsWithin t context calls exits joins (Go node fact) = Unit {0}
  JoinsWithin t context calls exits joins (Call at d) = (exits ≤ joins) × ((k : ℕ) → At t.contexts k d → length (exits_of t k) + exits ≤ joins)
  JoinsWithin t context calls exits joins (Exit x) = length (callers_of t context) + calls ≤ joins
  JoinsWithin t context calls exits joins (Mark m) = Unit {0}

  -- a known context that the move calls has a place for the caller
  abbrev pub HasCallerRoom : Tables F → ℕ → Move F M → Type 0
  HasCallerRoom t context (Go node fact) = Unit {0}
  HasCallerRoom t context (Call at d) = (k : ℕ) → At t.contexts k d → HasPlaceFor (call_site context at) t k
  HasCallerRoom t context (Exit x) = Unit {0}
  HasCallerRoom t context (Mark m) = Unit {0}

  -- the nodes are the starts of the context that the move calls, where that isn't known
  abbrev pub HasStarts : Machine F M → Tables F → List Node → Move F M → Type 0
  HasStarts P t starts (Go node fact) = Unit {0}
  HasStarts P t starts (Call at d) = (Contains t.contexts d → ⊥) → (n : Node) → Contains starts n ↔ P.start d n
  HasStarts P t starts (Exit x) = Unit {0}
  HasStarts P t starts (Mark m) = Unit {0}

  -- the moves can be taken in, in a context, without further memory
  pub record HasRoomFor (context : ℕ) (s : Parts F M) (rs : List (Ready F M)) : Type 0 where
    -- the statement at which all calls stand: so each callee gets one caller at most
    pub at : StmtId
    pub stand : (r : Ready F M) → Contains rs r → StandsAt at r.step
    pub contexts : sum_by calls_of rs ≤ s.tables.spare_contexts
    pub first : 0 < s.tables.first_callers
    pub exits : sum_by leaves_of rs ≤ slice_index s.tables.spare_exits context
    pub callers : (r : Ready F M) → Contains rs r → HasCallerRoom s.tables context r.step
    pub joins : (r : Ready F M) → Contains rs r → JoinsWithin s.tables context (sum_by calls_of rs) (sum_by leaves_of rs) r.joins r.step
    pub marks : vec_len s.marks + length rs ≤ vec_capacity s.marks
    pub edges : sum_by edges_of rs ≤ s.edges.spare
    pub queue : deque_len s.queue + sum_by works_of rs ≤ deque_capacity s.queue

  -- one of these moves
  abbrev pub IsOf : List (Ready F M) → Move F M → Type 0
  IsOf rs m = (r : Ready F M) × Contains rs r × (m ≡ r.step)

  -- contracts see the same, and no room that was made for what is in hand went
  pub record IsSame (old new : Parts F M) : Type 0 where
    pub contexts : new.tables.contexts ≡ old.tables.contexts
    pub callers : new.tables.callers ≡ old.tables.callers
    pub exits : new.tables.exits ≡ old.tables.exits
    pub edges : new.edges.held ≡ old.edges.held
    pub queue : new.queue.items ≡ old.queue.items
    pub flights : new.flights ≡ old.flights
    pub marks : new.marks.items ≡ old.marks.items
