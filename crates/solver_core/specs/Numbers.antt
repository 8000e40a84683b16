-- What the numbers of contexts stand for, and when they are all in range.
use Rattle.std.specs.Prelude.{◌≡◌, ◌<◌, ℕ, ◌^◌, false, List, [], ◌∷◌, ◌++◌, length, map, slice_index_or, Contains, Option, Some, None}
use Rattle.ifds_model.specs.State.{View, Known, Exited, IsDistinct, at_node}
use Rattle.ifds_model.specs.State.{Caller}
use Rattle.ifds_model.specs.declared.node.Context.{Context}
use Rattle.ifds_model.specs.declared.node.Frame.{Frame}
use Rattle.ifds_model.specs.declared.node.Item.{Item}
use Rattle.ifds_model.specs.declared.node.Item.TheVariants.{Edge, Join}
use Rattle.entry_tables.specs.Lists.{list_at}
use Rattle.entry_tables.specs.declared.tables.CallSite.{CallSite}
use Rattle.solver_core.specs.Store.{Held, Spot}
use Rattle.solver_core.specs.declared.pending.Pending.{Pending}
use Rattle.solver_core.specs.declared.pending.Pending.TheVariants.{Edge as PendingEdge, Join as PendingJoin}

-- the entries of numbered lists, each with the key of its list
abbrev pub spread : {K X Y : Type 0} → (K → X → Y) → List K → List (List X) → List Y
spread f [] rows = []
spread f (k ∷ ks) [] = []
spread f (k ∷ ks) (row ∷ rows) = map (f k) row ++ spread f ks rows

module _ {F : Type 0} (root : Context F) (contexts : List (Context F)) where
  -- the context with this number; the root is none but the first
  abbrev pub context_at : ℕ → Context F
  context_at n = slice_index_or contexts n root

  abbrev pub frame_of : Spot F → Frame F
  frame_of s = at_node (context_at s.context) s.node s.fact

  abbrev pub item_of : Pending F → Item F
  item_of (PendingEdge c n f) = Edge (context_at c) n f
  item_of (PendingJoin c at k x) = Join (context_at c) at (context_at k) x

  abbrev pub flight_of : Option (Pending F) → Option (Item F)
  flight_of None = None
  flight_of (Some w) = Some (item_of w)

  abbrev pub waits_of : Context F → CallSite → Caller F
  waits_of callee c = record { callee = callee; caller = context_at c.caller; call = c.call }

abbrev pub live_of : {F : Type 0} → Context F → Known F
live_of e = record { context = e; retired = false }

abbrev pub exited_of : {F : Type 0} → Context F → F → Exited F
exited_of e x = record { context = e; exit = x }

-- what the parts of a state stand for
abbrev pub view_of : {F M : Type 0} → Context F → List (Context F) → List (List CallSite) → List (List F) → Held F → List (Pending F) → List (Option (Pending F)) → List M → ℕ → ℕ → ℕ → ℕ → ℕ → View F M
view_of root contexts callers exits edges queue flights marks commits lag takes period max_edges = record {
  queue = map (item_of root contexts) queue;
  flights = map (flight_of root contexts) flights;
  held = map (frame_of root contexts) edges.edges;
  known = map live_of contexts;
  callers = spread (waits_of root contexts) contexts callers;
  exits = spread exited_of contexts exits;
  marks = marks;
  found = edges.found;
  commits = commits;
  lag = lag;
  takes = takes;
  period = period;
  max_edges = max_edges;
}

-- the work's contexts have numbers below this one
abbrev pub HasNumbersBelow : {F : Type 0} → ℕ → Pending F → Type 0
HasNumbersBelow n (PendingEdge c m f) = c < n
HasNumbersBelow n (PendingJoin c at k x) = (c < n) × (k < n)

-- the number of the context in which a work is done
abbrev pub place : {F : Type 0} → Pending F → ℕ
place (PendingEdge c m f) = c
place (PendingJoin c at k x) = c

-- each number is a context's
pub record AreNumbers {F : Type 0} (contexts : List (Context F)) (callers : List (List CallSite)) (exits : List (List F)) (edges : Held F) (queue : List (Pending F)) (flights : List (Option (Pending F))) : Type 0 where
  pub workers : length flights < 2 ^ 32
  pub distinct : IsDistinct contexts
  pub callers_long : length callers ≡ length contexts
  pub exits_long : length exits ≡ length contexts
  pub once : IsDistinct edges.edges
  pub edges_in : (s : Spot F) → Contains edges.edges s → s.context < length contexts
  pub queue_in : (w : Pending F) → Contains queue w → HasNumbersBelow (length contexts) w
  pub flights_in : (w : Pending F) → Contains flights (Some w) → HasNumbersBelow (length contexts) w
  pub callers_in : (k : ℕ) (c : CallSite) → Contains (list_at callers k) c → c.caller < length contexts
