-- What contracts see of a solver's state: items, frames and contexts, never the numbers of a representation
-- (docs/SOLVER.md, "State"). Machines and runs stand below; what is so of a sound state, and its events, above.
use Rattle.std.specs.Prelude.{◌≡◌, ◌≢◌, ◌⊎◌, ℕ, Bool, true, false, List, AllPairs, Contains, Option, Some}
pub use Rattle.clean_base.specs.Lists.{At, IsDistinct}
use Rattle.clean_base.specs.declared.ids.StmtId.{StmtId}
use Rattle.ifds_model.specs.declared.node.Context.{Context}
use Rattle.ifds_model.specs.declared.node.Frame.{Frame}
use Rattle.ifds_model.specs.declared.node.Item.{Item}
use Rattle.ifds_model.specs.declared.node.Item.TheVariants.{Edge, Join}
use Rattle.ifds_model.specs.declared.node.Node.{Node}
use Rattle.ifds_model.specs.declared.node.Move.{Move}
use Rattle.ifds_model.specs.declared.node.Move.TheVariants.{Go}
use Rattle.ifds_model.specs.Machine.{Machine}

-- a caller that waits for a context, at a call
pub record Caller (F : Type 0) : Type 0 where
  pub callee : Context F
  pub caller : Context F
  pub call : StmtId

-- a fact with which a context exits
pub record Exited (F : Type 0) : Type 0 where
  pub context : Context F
  pub exit : F

-- a known context is live, or its edges were dropped
pub record Known (F : Type 0) : Type 0 where
  pub context : Context F
  pub retired : Bool

pub record View (F M : Type 0) : Type 0 where
  -- the items that wait, the next to be taken first
  pub queue : List (Item F)
  -- the item that each worker has in hand
  pub flights : List (Option (Item F))
  pub held : List (Frame F)
  pub known : List (Known F)
  pub callers : List (Caller F)
  pub exits : List (Exited F)
  pub marks : List M
  -- how many edges were ever held, and how many of them were committed
  pub found : ℕ
  pub commits : ℕ
  -- how many commits since the last sweep
  pub lag : ℕ
  -- how many items were taken
  pub takes : ℕ
  -- a sweep is due at this lag
  pub period : ℕ
  pub max_edges : ℕ

-- a state, with the problem that it is about
pub record Seen (P F M : Type 0) : Type 0 where
  pub problem : P
  pub view : View F M

-- the frame of a context at a node with a fact
abbrev pub at_node : {F : Type 0} → Context F → Node → F → Frame F
at_node e node fact = record { context = e; node = node; fact = fact }

-- the item that has an edge's moves to do
abbrev pub edge_item : {F : Type 0} → Frame F → Item F
edge_item a = Edge a.context a.node a.fact

-- the context in which an item's work is done
abbrev pub context_of : {F : Type 0} → Item F → Context F
context_of (Edge context node fact) = context
context_of (Join caller call callee exit) = caller

-- the moves of a caller behind its call: it goes on where `back` says
abbrev pub GoesBack : {F M : Type 0} → Machine F M → StmtId → F → Move F M → Type 0
GoesBack P call exit m = (n : Node) × (f : _) × P.back call exit (Go n f) × (m ≡ Go n f)

-- the moves of an item: all that its edge may do, or those of the caller behind its call
abbrev pub MovesOf : {F M : Type 0} → Machine F M → Item F → Move F M → Type 0
MovesOf P (Edge context node fact) m = P.step node fact m
MovesOf P (Join caller call callee exit) m = GoesBack P call exit m

module _ {F M : Type 0} where
  abbrev pub IsHeld : View F M → Frame F → Type 0
  IsHeld s a = Contains s.held a

  abbrev pub IsLive : View F M → Context F → Type 0
  IsLive s e = Contains s.known (record { context = e; retired = false })

  abbrev pub IsRetired : View F M → Context F → Type 0
  IsRetired s e = Contains s.known (record { context = e; retired = true })

  abbrev pub IsKnown : View F M → Context F → Type 0
  IsKnown s e = IsLive s e ⊎ IsRetired s e

  -- the callee, the caller and the statement of the call
  abbrev pub IsCaller : View F M → Context F → Context F → StmtId → Type 0
  IsCaller s d e at = Contains s.callers (record { callee = d; caller = e; call = at })

  abbrev pub IsExit : View F M → Context F → F → Type 0
  IsExit s e x = Contains s.exits (record { context = e; exit = x })

  abbrev pub IsMarked : View F M → M → Type 0
  IsMarked s m = Contains s.marks m

  -- in the queue, or in a flight
  abbrev pub IsPending : View F M → Item F → Type 0
  IsPending s item = Contains s.queue item ⊎ Contains s.flights (Some item)

  -- no item is pending twice: not in the queue, not in two flights, and not in both
  pub record IsOnce (s : View F M) : Type 0 where
    pub queue : IsDistinct s.queue
    pub flights : (item : Item F) (v w : ℕ) → At s.flights v (Some item) → At s.flights w (Some item) → v ≡ w
    pub apart : (item : Item F) → Contains s.queue item → Contains s.flights (Some item) → ⊥

  -- the lists that stand for sets have no repeats: no edge is held twice, and each known context is live or retired
  pub record IsTidy (s : View F M) : Type 0 where
    pub held : IsDistinct s.held
    pub known : AllPairs (λ a b. a.context ≢ b.context) s.known
