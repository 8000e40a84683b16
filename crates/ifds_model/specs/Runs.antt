-- Runs of a stack machine, and what they reach.
use Rattle.std.specs.Prelude.{◌≡◌, ◌⊎◌, ℕ, List, [], ◌∷◌, length, Contains, AllPairs, ◌≢◌}
use Rattle.clean_base.specs.declared.ids.StmtId.{StmtId}
use Rattle.ifds_model.specs.declared.node.Context.{Context}
use Rattle.ifds_model.specs.declared.node.Frame.{Frame}
use Rattle.ifds_model.specs.declared.node.Node.{Node}
use Rattle.ifds_model.specs.declared.node.Move.TheVariants.{Go, Call, Exit, Mark}
use Rattle.ifds_model.specs.Machine.{Machine}

-- a frame that waits at a call
pub record Waiting (F : Type 0) : Type 0 where
  pub frame : Frame F
  pub call : StmtId

-- the top frame, and the frames that wait below it, the newest first
pub record Configuration (F : Type 0) : Type 0 where
  pub top : Frame F
  pub below : List (Waiting F)

-- a frame at another node and fact of its context
abbrev pub moved : {F : Type 0} → Frame F → Node → F → Frame F
moved f node fact = record { context = f.context; node = node; fact = fact }

-- the frame in which a context starts at a node
abbrev pub opened : {F : Type 0} → Context F → Node → Frame F
opened e node = record { context = e; node = node; fact = e.fact }

module _ {F M : Type 0} where
  -- the first configuration: the root alone, at its start
  pub record IsFirst (P : Machine F M) (c : Configuration F) : Type 0 where
    pub node : Node
    pub starts : P.start P.root node
    pub is : c ≡ record { top = opened P.root node; below = [] }

  -- the top frame goes on
  pub record Goes (P : Machine F M) (c d : Configuration F) : Type 0 where
    pub node : Node
    pub fact : F
    pub move : P.step c.top.node c.top.fact (Go node fact)
    pub is : d ≡ record { top = moved c.top node fact; below = c.below }

  -- the top frame calls, and waits
  pub record Pushes (P : Machine F M) (c d : Configuration F) : Type 0 where
    pub call : StmtId
    pub callee : Context F
    pub node : Node
    pub move : P.step c.top.node c.top.fact (Call call callee)
    pub starts : P.start callee node
    pub is : d ≡ record { top = opened callee node; below = record { frame = c.top; call = call } ∷ c.below }

  -- the top frame exits, and the frame below it goes on behind its call
  pub record Pops (P : Machine F M) (c d : Configuration F) : Type 0 where
    pub exit : F
    pub caller : Waiting F
    pub rest : List (Waiting F)
    pub node : Node
    pub fact : F
    pub move : P.step c.top.node c.top.fact (Exit exit)
    pub waits : c.below ≡ caller ∷ rest
    pub back : P.back caller.call exit (Go node fact)
    pub is : d ≡ record { top = moved caller.frame node fact; below = rest }

  abbrev pub Follows : Machine F M → Configuration F → Configuration F → Type 0
  Follows P c d = Goes P c d ⊎ Pushes P c d ⊎ Pops P c d

  -- a run, its last configuration first
  abbrev pub IsRun : Machine F M → List (Configuration F) → Type 0
  IsRun P [] = ⊥
  IsRun P (c ∷ []) = IsFirst P c
  IsRun P (d ∷ c ∷ cs) = Follows P c d × IsRun P (c ∷ cs)

  -- the top frame of the last configuration of some run
  pub record IsEdge (P : Machine F M) (a : Frame F) : Type 0 where
    pub last : Configuration F
    pub earlier : List (Configuration F)
    pub run : IsRun P (last ∷ earlier)
    pub top : last.top ≡ a

  -- the root, and what edges call
  abbrev pub IsContext : Machine F M → Context F → Type 0
  IsContext P e = (e ≡ P.root) ⊎ ((a : Frame F) × (call : StmtId) × IsEdge P a × P.step a.node a.fact (Call call e))

  -- an edge has this mark
  abbrev pub IsLeak : Machine F M → M → Type 0
  IsLeak P m = (a : Frame F) × IsEdge P a × P.step a.node a.fact (Mark m)

-- the list has each member of the set once, and no other
pub record Lists {X : Type 0} (set : X → Type 0) (xs : List X) : Type 0 where
  pub distinct : AllPairs (λ x y. x ≢ y) xs
  pub sound : (x : X) → Contains xs x → set x
  pub whole : (x : X) → set x → Contains xs x

-- the set has so many members
abbrev pub HasCount : {X : Type 0} → (X → Type 0) → ℕ → Type 0
HasCount {X} set n = (xs : List X) × Lists set xs × (length xs ≡ n)
