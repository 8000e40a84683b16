-- Marks on the nodes of a graph. The public contracts don't cite this.
use Rattle.std.specs.Prelude.{◌≡◌, ◌↔◌, ◌⊎◌, ◌<◌, ℕ, Bool, true, List, length}
use Rattle.clean_base.specs.Lists.{At}

-- a mark for each node, on those that are so
pub record AreMarked (rows : List (List ℕ)) (Is : ℕ → Type 0) (marks : List Bool) : Type 0 where
  pub count : length marks ≡ length rows
  pub each : (a : ℕ) → a < length rows → At marks a true ↔ Is a

-- the chosen nodes are marked besides
pub record Spreads (Chosen : ℕ → Type 0) (old new : List Bool) : Type 0 where
  pub count : length new ≡ length old
  pub each : (a : ℕ) → At new a true ↔ (At old a true ⊎ ((a < length old) × Chosen a))
