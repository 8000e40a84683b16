-- When a solver's state is sound (docs/SOLVER.md, "Sound"). What contracts see of a state stands below; its events, and
-- that each of them keeps a state sound, above.
use Rattle.std.specs.Prelude.{◌⊎◌, ◌≤◌}
use Rattle.clean_base.specs.declared.ids.StmtId.{StmtId}
use Rattle.ifds_model.specs.declared.node.Context.{Context}
use Rattle.ifds_model.specs.declared.node.Frame.{Frame}
use Rattle.ifds_model.specs.declared.node.Item.{Item}
use Rattle.ifds_model.specs.declared.node.Item.TheVariants.{Join}
use Rattle.ifds_model.specs.declared.node.Node.{Node}
use Rattle.ifds_model.specs.declared.node.Move.{Move}
use Rattle.ifds_model.specs.declared.node.Move.TheVariants.{Go, Call, Exit, Mark}
use Rattle.ifds_model.specs.Machine.{Machine}
use Rattle.ifds_model.specs.Runs.{opened, IsEdge, IsContext, IsLeak, HasCount}
use Rattle.ifds_model.specs.State.{View, at_node, edge_item, context_of, IsHeld, IsLive, IsRetired, IsKnown, IsCaller, IsExit, IsMarked, IsPending, IsOnce}

module _ {F M : Type 0} where
  -- an edge of the context calls the callee at this statement
  pub record Calls (P : Machine F M) (e : Context F) (at : StmtId) (callee : Context F) : Type 0 where
    pub node : Node
    pub fact : F
    pub edge : IsEdge P (at_node e node fact)
    pub move : P.step node fact (Call at callee)

  -- an edge of the context exits with this fact
  pub record Exits (P : Machine F M) (e : Context F) (x : F) : Type 0 where
    pub node : Node
    pub fact : F
    pub edge : IsEdge P (at_node e node fact)
    pub move : P.step node fact (Exit x)

  -- what a move in a context asks for is there
  abbrev pub IsTaken : View F M → Context F → Move F M → Type 0
  IsTaken s e (Go node fact) = IsHeld s (at_node e node fact)
  IsTaken s e (Call at d) = IsKnown s d × IsCaller s d e at
  IsTaken s e (Exit x) = IsExit s e x
  IsTaken s e (Mark m) = IsMarked s m

  -- held, or dropped: an edge of a retired context
  abbrev pub IsFound : Machine F M → View F M → Frame F → Type 0
  IsFound P s a = IsHeld s a ⊎ (IsRetired s a.context × IsEdge P a)

  -- held with nothing left to do, or dropped
  abbrev pub IsDone : Machine F M → View F M → Frame F → Type 0
  IsDone P s a = (IsHeld s a × (IsPending s (edge_item a) → ⊥)) ⊎ (IsRetired s a.context × IsEdge P a)

  -- contexts and entries are those of the machine
  pub record AreEntries (P : Machine F M) (s : View F M) : Type 0 where
    pub root : IsKnown s P.root
    pub contexts : (e : Context F) → IsKnown s e → IsContext P e
    pub callers : (d e : Context F) (at : StmtId) → IsCaller s d e at → IsKnown s d × IsKnown s e × Calls P e at d
    pub exits : (e : Context F) (x : F) → IsExit s e x → IsKnown s e × Exits P e x

  -- held edges are those of live contexts, with their starts, and what is pending stands in the tables
  pub record AreHeld (P : Machine F M) (s : View F M) : Type 0 where
    pub edges : (a : Frame F) → IsHeld s a → IsEdge P a × IsLive s a.context
    pub starts : (e : Context F) (n : Node) → IsLive s e → P.start e n → IsHeld s (opened e n)
    pub pending_edges : (a : Frame F) → IsPending s (edge_item a) → IsHeld s a
    pub pending_joins : (e : Context F) (at : StmtId) (d : Context F) (x : F) → IsPending s (Join e at d x) → IsCaller s d e at × IsExit s d x
    pub once : IsOnce s

  -- a held edge is pending, or it isn't and each of its moves is taken in
  abbrev pub IsWorked : Machine F M → View F M → Type 0
  IsWorked P s = (a : Frame F) → IsHeld s a → IsPending s (edge_item a)
      ⊎ ((IsPending s (edge_item a) → ⊥) × ((m : Move F M) → P.step a.node a.fact m → IsTaken s a.context m))

  -- for a caller and an exit of its callee: the caller is retired, their join is pending, or all that comes back is held
  abbrev pub IsJoined : Machine F M → View F M → Type 0
  IsJoined P s = (d e : Context F) (at : StmtId) (x : F) → IsCaller s d e at → IsExit s d x → IsRetired s e
      ⊎ IsPending s (Join e at d x)
      ⊎ ((node : Node) (fact : F) → P.back at x (Go node fact) → IsHeld s (at_node e node fact))

  -- a retired context has nothing to do, and all that its edges ask for stays in the tables: what they call is retired
  -- too, and the entries of `exits` are exactly its exits (that they are no others is a field of AreEntries)
  pub record AreRetired (P : Machine F M) (s : View F M) : Type 0 where
    pub items : (item : Item F) → IsPending s item → IsRetired s (context_of item) → ⊥
    pub calls : (e : Context F) → IsRetired s e → (at : StmtId) (d : Context F) → Calls P e at d → IsRetired s d
    pub exits : (e : Context F) → IsRetired s e → (x : F) → Exits P e x → IsExit s e x
    pub marks : (a : Frame F) → IsRetired s a.context → IsEdge P a → (m : M) → P.step a.node a.fact (Mark m) → IsMarked s m

  -- found counts the edges that are held or dropped, commits those of them that are done. A pending edge is held, so
  -- commits is found less the number of pending edges
  pub record AreCounts (P : Machine F M) (s : View F M) : Type 0 where
    pub found : HasCount (IsFound P s) s.found
    pub within : s.found ≤ s.max_edges
    pub commits : HasCount (IsDone P s) s.commits

  pub record IsSound (P : Machine F M) (s : View F M) : Type 0 where
    pub entries : AreEntries P s
    pub held : AreHeld P s
    pub worked : IsWorked P s
    pub joined : IsJoined P s
    pub retired : AreRetired P s
    pub counts : AreCounts P s
    -- every mark is a leak
    pub leaks : (m : M) → IsMarked s m → IsLeak P m
