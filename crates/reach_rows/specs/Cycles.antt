-- How far the search for what is reached from some nodes has come.
use Rattle.std.specs.Prelude.{◌≡◌, ◌↔◌, ◌+◌, ◌<◌, ◌≤◌, ◌⊎◌, Bool, true, ℕ, List, [], length, cond, Contains, IsTrue}
use Rattle.std.specs.List.{sum_by}
use Rattle.clean_base.specs.Lists.{At}
use Rattle.reach_rows.specs.Reaches.{Reaches}
use Rattle.reach_rows.specs.Graphs.{Steps, IsOnCycle}

-- all nodes to which one step leads are seen
abbrev pub RowSeen : List (List ℕ) → List Bool → ℕ → Type 0
RowSeen rows seen a = (b : ℕ) → Steps rows a b → At seen b true

-- the node is seen besides what was, and what else is seen is reached from it; of what is seen each waits, or its row is seen
pub record IsFlood (rows : List (List ℕ)) (a : ℕ) (old seen : List Bool) (waiting : List ℕ) : Type 0 where
  pub count : length seen ≡ length rows
  pub within : (b : ℕ) → Contains waiting b → b < length rows
  pub waits : (b : ℕ) → Contains waiting b → Reaches (Steps rows) a b
  pub kept : (b : ℕ) → At old b true → At seen b true
  pub start : At seen a true
  pub from : (b : ℕ) → At seen b true → At old b true ⊎ Reaches (Steps rows) a b
  pub rest : (b : ℕ) → At seen b true → Contains waiting b ⊎ RowSeen rows seen b

-- none waits
pub record IsWhole (rows : List (List ℕ)) (seen : List Bool) (waiting : List ℕ) : Type 0 where
  pub count : length seen ≡ length rows
  pub none : waiting ≡ []
  pub closed : (b : ℕ) → At seen b true → RowSeen rows seen b

-- a node is seen, and what else is seen newly is reached from it
pub record IsSpread (rows : List (List ℕ)) (a : ℕ) (old new : List Bool) : Type 0 where
  pub kept : (b : ℕ) → At old b true → At new b true
  pub start : At new a true
  pub from : (b : ℕ) → At new b true → At old b true ⊎ Reaches (Steps rows) a b

-- what is seen leads to one of the last nodes of the order, and these are seen
pub record IsTaken (rows : List (List ℕ)) (order : List ℕ) (passed : ℕ) (seen : List Bool) : Type 0 where
  pub has : (i a : ℕ) → length order ≤ i + passed → At order i a → At seen a true
  pub leads : (b : ℕ) → At seen b true → (i : ℕ) × (a : ℕ) × (length order ≤ i + passed) × At order i a × Reaches (Steps rows) b a

-- it is told of these whether they are on a cycle
abbrev pub AreToldFrom : List (List ℕ) → List ℕ → ℕ → List Bool → Type 0
AreToldFrom rows order passed told = (i a : ℕ) (b : Bool) → length order ≤ i + passed → At order i a → At told a b → IsTrue b ↔ IsOnCycle rows a

-- and of all
pub record AreTold (rows : List (List ℕ)) (told : List Bool) : Type 0 where
  pub count : length told ≡ length rows
  pub each : (a : ℕ) (b : Bool) → At told a b → IsTrue b ↔ IsOnCycle rows a

-- what is still to be done
abbrev pub left_of : List Bool → List ℕ → ℕ
left_of seen waiting = sum_by (λ b. cond b 0 1) seen + length waiting

-- these nodes are seen now, and those that weren't before wait
pub record IsAdded (nodes : List ℕ) (old : List Bool) (before : List ℕ) (new : List Bool) (after : List ℕ) : Type 0 where
  pub count : length new ≡ length old
  pub kept : (b : ℕ) → At old b true → At new b true
  pub waits : (b : ℕ) → Contains before b → Contains after b
  pub all : (b : ℕ) → Contains nodes b → At new b true
  pub fresh : (b : ℕ) → At new b true → At old b true ⊎ (Contains nodes b × Contains after b)
  pub from : (b : ℕ) → Contains after b → Contains before b ⊎ Contains nodes b
  pub less : left_of new after ≤ left_of old before
