-- What contracts see of the set of held edges.
use Rattle.std.specs.Prelude.{ℕ, List, [], ◌∷◌}
pub use Rattle.edge_store.specs.Pages.{Spot, spot}

-- the edges that are held, each once, and how many were ever held
pub record Held (F : Type 0) : Type 0 where
  pub edges : List (Spot F)
  pub found : ℕ

pub record Store (F : Type 0) : Type 0 where
  pub held : Held F
  -- how many further edges it has room for
  pub spare : ℕ

-- one edge, which is the first
abbrev pub one_edge : {F : Type 0} → Spot F → Held F
one_edge e = record { edges = e ∷ []; found = 1 }
