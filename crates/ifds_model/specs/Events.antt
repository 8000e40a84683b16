-- The first state, and what each event does to a state (docs/SOLVER.md, "Events"). All that a case doesn't name stays:
-- where the new state is written as the old one with other fields, or `rest` says so. Sound states and freed methods
-- stand below; that every event keeps a state sound is shown above.
use Rattle.std.specs.Prelude.{◌≡◌, ◌⊎◌, ◌↔◌, ◌≤◌, ℕ, ◌+◌, ◌-◌, ◌^◌, min, false, List, [], ◌∷◌, ◌++◌, replicate, remove, slice_set, Contains, Some, None}
use Rattle.clean_base.specs.declared.ids.MethodId.{MethodId}
use Rattle.clean_base.specs.declared.ids.StmtId.{StmtId}
use Rattle.ifds_model.specs.declared.event.Event.{Event}
use Rattle.ifds_model.specs.declared.event.Event.TheVariants.{Take, Commit, Back, Retire, Sweep}
use Rattle.ifds_model.specs.declared.node.Context.{Context}
use Rattle.ifds_model.specs.declared.node.Frame.{Frame}
use Rattle.ifds_model.specs.declared.node.Item.{Item}
use Rattle.ifds_model.specs.declared.node.Item.TheVariants.{Edge, Join}
use Rattle.ifds_model.specs.declared.node.Node.{Node}
use Rattle.ifds_model.specs.declared.node.Move.{Move}
use Rattle.ifds_model.specs.declared.node.Move.TheVariants.{Go, Call, Exit, Mark}
use Rattle.ifds_model.specs.Machine.{Machine}
use Rattle.ifds_model.specs.Runs.{opened, HasCount}
use Rattle.ifds_model.specs.State.{View, At, IsDistinct, at_node, edge_item, context_of, MovesOf, IsHeld, IsLive, IsRetired, IsKnown, IsCaller, IsExit, IsMarked}
use Rattle.ifds_model.specs.Sound.{IsTaken}
use Rattle.ifds_model.specs.Free.{IsFree, IsFreed}

-- an edge's commit counts as one, a join's doesn't count
abbrev pub commits_of : {F : Type 0} → Item F → ℕ
commits_of (Edge context node fact) = 1
commits_of (Join caller call callee exit) = 0

module _ {F M : Type 0} where
  -- the state that knows the root alone, with its start to do
  abbrev pub opening : Machine F M → Node → ℕ → ℕ → ℕ → View F M
  opening P start period max_edges workers = record {
    queue = edge_item (opened P.root start) ∷ [];
    flights = replicate workers None;
    held = opened P.root start ∷ [];
    known = record { context = P.root; retired = false } ∷ [];
    callers = [];
    exits = [];
    marks = [];
    found = 1;
    commits = 0;
    lag = 0;
    takes = 0;
    period = period;
    max_edges = max_edges;
  }

  pub record IsOpened (P : Machine F M) (period max_edges workers : ℕ) (s : View F M) : Type 0 where
    pub node : Node
    pub starts : P.start P.root node
    pub is : s ≡ opening P node period max_edges workers

  -- a worker with nothing in hand takes the item at a place of the queue; the others keep their order
  pub record Takes (worker place : ℕ) (old new : View F M) : Type 0 where
    pub item : Item F
    pub idle : At old.flights worker None
    pub at : At old.queue place item
    pub is : new ≡ record old { queue = remove old.queue place; flights = slice_set old.flights worker (Some item); takes = min (old.takes + 1) (2 ^ 64 - 1) }

  -- a worker's item goes to the end of the queue
  pub record GivesBack (worker : ℕ) (old new : View F M) : Type 0 where
    pub item : Item F
    pub flies : At old.flights worker (Some item)
    pub is : new ≡ record old { queue = old.queue ++ item ∷ []; flights = slice_set old.flights worker None }

  -- the frames to which moves in a context lead: those that it goes to, and the starts of contexts that it calls and
  -- that weren't known
  abbrev pub LeadsTo : Machine F M → Context F → (Move F M → Type 0) → View F M → Frame F → Type 0
  LeadsTo P e moves old b = ((node : Node) × (fact : F) × moves (Go node fact) × (b ≡ at_node e node fact))
      ⊎ ((at : StmtId) × (d : Context F) × (n : Node) × moves (Call at d) × (IsKnown old d → ⊥) × P.start d n × (b ≡ opened d n))

  -- moves in a context are taken in
  pub record TakesIn (P : Machine F M) (e : Context F) (moves : Move F M → Type 0) (old new : View F M) : Type 0 where
    -- nothing goes
    pub live : (d : Context F) → IsLive old d → IsLive new d
    pub retired : (d : Context F) → IsRetired old d → IsRetired new d
    pub held : (a : Frame F) → IsHeld old a → IsHeld new a
    pub callers : (d c : Context F) (at : StmtId) → IsCaller old d c at → IsCaller new d c at
    pub exits : (d : Context F) (x : F) → IsExit old d x → IsExit new d x
    pub marks : (m : M) → IsMarked old m → IsMarked new m
    -- what each move asks for is there, and the starts of each context that becomes known are held
    pub taken : (m : Move F M) → moves m → IsTaken new e m
    pub started : (d : Context F) → IsKnown new d → IsKnown old d ⊎ ((n : Node) → P.start d n → IsHeld new (opened d n))
    -- and nothing else comes. A context that becomes known is live
    pub live_from : (d : Context F) → IsLive new d → IsLive old d ⊎ ((IsKnown old d → ⊥) × ((at : StmtId) × moves (Call at d)))
    pub retired_from : (d : Context F) → IsRetired new d → IsRetired old d
    pub held_from : (a : Frame F) → IsHeld new a → IsHeld old a ⊎ LeadsTo P e moves old a
    pub callers_from : (d c : Context F) (at : StmtId) → IsCaller new d c at → IsCaller old d c at ⊎ (moves (Call at d) × (c ≡ e))
    pub exits_from : (d : Context F) (x : F) → IsExit new d x → IsExit old d x ⊎ (moves (Exit x) × (d ≡ e))
    pub marks_from : (m : M) → IsMarked new m → IsMarked old m ⊎ moves (Mark m)
    -- the new items stand at the end of the queue, in any order
    pub added : List (Item F)
    pub queue : new.queue ≡ old.queue ++ added
    pub once : IsDistinct added
    -- they are each newly held edge, and each join of a caller and an exit that hadn't met
    pub queued : (a : Frame F) → IsHeld new a → IsHeld old a ⊎ (Contains added (edge_item a) × (IsHeld old a → ⊥))
    pub met : (d c : Context F) (at : StmtId) (x : F) → IsCaller new d c at → IsExit new d x → (IsCaller old d c at × IsExit old d x) ⊎ Contains added (Join c at d x)
    -- and no others
    pub edges_from : (a : Frame F) → Contains added (edge_item a) → IsHeld new a × (IsHeld old a → ⊥)
    pub joins_from : (c : Context F) (at : StmtId) (d : Context F) (x : F) → Contains added (Join c at d x) → IsCaller new d c at × IsExit new d x × (IsCaller old d c at × IsExit old d x → ⊥)
    -- found counts the newly held edges
    pub more : ℕ
    pub counted : HasCount (λ a. IsHeld new a × (IsHeld old a → ⊥)) more
    pub found : new.found ≡ old.found + more
    pub rest : new ≡ record old { queue = new.queue; held = new.held; known = new.known; callers = new.callers; exits = new.exits; marks = new.marks; found = new.found }

  -- the worker's item is no longer in hand, and its commit is counted. Lag stays at the period once a sweep is due
  abbrev pub landed : ℕ → Item F → View F M → View F M
  landed worker item s = record s { flights = slice_set s.flights worker None; commits = s.commits + commits_of item; lag = min (s.lag + 1) s.period }

  -- the moves of a worker's item are taken in, and the new edges keep within the limit
  pub record Commits (P : Machine F M) (worker : ℕ) (old new : View F M) : Type 0 where
    pub item : Item F
    pub flies : At old.flights worker (Some item)
    pub takes_in : TakesIn P (context_of item) (MovesOf P item) (landed worker item old) new
    pub within : new.found ≤ new.max_edges

  -- the known contexts of these methods are retired, and their edges go
  pub record Drops (inside : MethodId → Type 0) (old new : View F M) : Type 0 where
    pub known : (e : Context F) → IsKnown old e → IsKnown new e
    pub retired : (e : Context F) → IsRetired new e ↔ (IsRetired old e ⊎ (IsLive old e × inside e.method))
    pub live : (e : Context F) → IsLive new e ↔ (IsLive old e × (inside e.method → ⊥))
    pub held : (a : Frame F) → IsHeld new a ↔ (IsHeld old a × (inside a.context.method → ⊥))
    pub rest : new ≡ record old { held = new.held; known = new.known }

  module _ (reaches : MethodId → MethodId → Type 0) where
    -- a free method is retired with all that it reaches; where it isn't free, nothing happens
    abbrev pub Retires : MethodId → View F M → View F M → Type 0
    Retires m old new = (IsFree reaches old m × Drops (λ n. reaches m n) old new) ⊎ ((IsFree reaches old m → ⊥) × (new ≡ old))

    -- a freed method reaches this one
    abbrev pub IsSwept : View F M → MethodId → Type 0
    IsSwept s n = (m : MethodId) × IsFreed reaches s m × reaches m n

    -- every freed method is retired, and lag is 0
    abbrev pub Sweeps : View F M → View F M → Type 0
    Sweeps old new = Drops (IsSwept old) (record old { lag = 0 }) new

    abbrev pub Happens : Machine F M → View F M → Event → View F M → Type 0
    Happens P old (Take worker place) new = Takes worker place old new
    Happens P old (Commit worker) new = Commits P worker old new
    Happens P old (Back worker) new = GivesBack worker old new
    Happens P old (Retire method) new = Retires method old new
    Happens P old Sweep new = Sweeps old new
