-- What contracts see of a state, and what is so of every state.
use Rattle.std.specs.Prelude.{◌≡◌, ◌≤◌, ◌+◌, ℕ, List, [], ◌∷◌, ◌++◌, map, Contains}
use Rattle.std.specs.VecDeque.{deque_len, deque_capacity}
use Rattle.clean_base.specs.declared.ids.MethodId.{MethodId}
use Rattle.ifds_model.specs.Machine.{Machine}
use Rattle.ifds_model.specs.declared.node.Context.{Context}
use Rattle.ifds_model.specs.declared.node.Node.{Node}
use Rattle.ifds_model.specs.declared.node.Move.{Move}
use Rattle.ifds_model.specs.declared.node.Move.TheVariants.{Go}
use Rattle.ifds_model.specs.Events.{TakesIn}
use Rattle.ifds_model.specs.State.{View, IsTidy}
use Rattle.ifds_model.specs.Sound.{IsSound}
use Rattle.ifds_model.specs.Free.{KeepsLag}
use Rattle.solver_core.specs.Hands.{in_hand}
use Rattle.solver_core.specs.Numbers.{view_of, context_at, live_of, AreNumbers}
use Rattle.solver_core.specs.declared.parts.Parts.{Parts}

module _ {F M : Type 0} where
  abbrev pub view_of_parts : Machine F M → Parts F M → ℕ → ℕ → ℕ → ℕ → ℕ → View F M
  view_of_parts P s commits lag takes period max_edges = view_of P.root s.tables.contexts s.tables.callers s.tables.exits s.edges.held s.queue.items s.flights.items s.marks.items commits lag takes period max_edges

  abbrev pub AreFit : Parts F M → Type 0
  AreFit s = AreNumbers s.tables.contexts s.tables.callers s.tables.exits s.edges.held s.queue.items s.flights.items

  -- the queue has room for what is in hand
  abbrev pub HasRoom : Parts F M → Type 0
  HasRoom s = deque_len s.queue + in_hand s.flights.items ≤ deque_capacity s.queue

  abbrev pub AreNumbered : Parts F M → Type 0
  AreNumbered s = AreFit s × HasRoom s

  -- what is so of every state: it is sound, tidy, and keeps the laws on lag
  pub record IsRight (P : Machine F M) (reaches : MethodId → MethodId → Type 0) (s : View F M) : Type 0 where
    pub sound : IsSound P s
    pub tidy : IsTidy s
    pub lag : KeepsLag reaches s

  -- moves in the context with this number are taken in, whatever was counted
  abbrev pub TakesInParts : Machine F M → ℕ → (Move F M → Type 0) → Parts F M → Parts F M → Type 0
  TakesInParts P context moves old new = (commits lag takes period max_edges : ℕ) →
      TakesIn P (context_at P.root old.tables.contexts context) moves (view_of_parts P old commits lag takes period max_edges) (view_of_parts P new commits lag takes period max_edges)

  -- the context is known now, and nothing else that contracts see changes
  abbrev pub OpensInParts : Machine F M → Context F → Parts F M → Parts F M → Type 0
  OpensInParts P e old new = (commits lag takes period max_edges : ℕ) →
      view_of_parts P new commits lag takes period max_edges ≡ record (view_of_parts P old commits lag takes period max_edges) { known = map live_of old.tables.contexts ++ live_of e ∷ [] }

-- a fact goes to these nodes
abbrev pub GoesTo : {F M : Type 0} → List Node → F → Move F M → Type 0
GoesTo nodes fact m = (n : Node) × Contains nodes n × (m ≡ Go n fact)
