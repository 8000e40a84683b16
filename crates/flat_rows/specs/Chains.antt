-- Chains of links, by which the nodes that lead to a node are gathered. The public contracts don't cite this.
use Rattle.std.specs.Prelude.{◌≡◌, ◌≤◌, ◌<◌, ◌++◌, ◌∷◌, ◌↔◌, [], ℕ, suc, List, length, slice_index, slice_set, Contains}
use Rattle.std.specs.List.Sorted.{IsStrictlyIncreasing}
use Rattle.clean_base.specs.Lists.{At}
use Rattle.flat_rows.specs.Converse.{row}
use Rattle.flat_rows.specs.declared.chains.Link.{Link}

-- the nodes of the chain that begins with the link of this number, counted from 1; the chain of number 0 has none
pub data Chain (links : List Link) : ℕ → List ℕ → Type 0 where
  ends : Chain links 0 []
  goes : {at : ℕ} {nodes : List ℕ} → (link : Link) → At links at link → link.next ≤ at → Chain links link.next nodes → Chain links (suc at) (link.node ∷ nodes)

-- for each node a chain of the nodes that lead to it, of those that the relation tells
pub record AreChains (D : ℕ → ℕ → Type 0) (count : ℕ) (heads : List ℕ) (links : List Link) : Type 0 where
  pub counted : length heads ≡ count
  pub each : (q : ℕ) → q < count → (ps : List ℕ) × Chain links (slice_index heads q) ps × IsStrictlyIncreasing ps × ((p : ℕ) → Contains ps p ↔ D p q)

-- those from this one on
abbrev pub LeadsFrom : List (List ℕ) → ℕ → ℕ → ℕ → Type 0
LeadsFrom rows from p q = (from ≤ p) × Contains (row rows p) q

-- one more that leads there, unless its chain begins with it already
pub data Linked (heads : List ℕ) (links : List Link) (node at : ℕ) : List ℕ → List Link → Type 0 where
  again : (nodes : List ℕ) → Chain links (slice_index heads at) (node ∷ nodes) → Linked heads links node at heads links
  fresh : (link : Link) → link.node ≡ node → link.next ≡ slice_index heads at → ((nodes : List ℕ) → Chain links (slice_index heads at) (node ∷ nodes) → ⊥) → Linked heads links node at (slice_set heads at (suc (length links))) (links ++ link ∷ [])
