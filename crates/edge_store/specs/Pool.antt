-- Facts by number, as contracts see them.
use Rattle.std.specs.Prelude.{◌≡◌, ◌<◌, ◌≤◌, ℕ, ◌^◌, List, length, sum, count_by, nat_lt, slice_index}
use Rattle.ifds_model.specs.State.{At, IsDistinct}

pub record Facts (F : Type 0) : Type 0 where
  -- a fact's number is its place
  pub facts : List F
  -- how many uses each has: a fact without uses is no longer there
  pub counts : List ℕ
  -- how many facts have uses, and the number of all uses
  pub live : ℕ
  pub used : ℕ
  pub spare : ℕ

pub record IsPool {F : Type 0} (facts : List F) (counts : List ℕ) (live used : ℕ) : Type 0 where
  pub even : length counts ≡ length facts
  pub distinct : IsDistinct facts
  pub small : length facts ≤ 2 ^ 32
  pub living : live ≡ count_by (λ c. nat_lt 0 c) counts
  pub uses : used ≡ sum counts

-- a fact that has uses keeps its number
abbrev pub KeepsUsed : {F : Type 0} → List ℕ → List F → List F → Type 0
KeepsUsed {F} counts old new = (n : ℕ) (f : F) → 0 < slice_index counts n → At old n f → At new n f

-- a fact that has uses
abbrev pub UsedFact : {F : Type 0} → List F → List ℕ → F → Type 0
UsedFact facts counts f = (n : ℕ) × At facts n f × (0 < slice_index counts n)
