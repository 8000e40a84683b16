-- Sets that have more members than a number.
use Rattle.std.specs.Prelude.{◌<◌, ℕ, List, length, Contains}
use Rattle.std.proofs.Common.{arith}
use Rattle.ifds_model.specs.Count.{no_more_than}
use Rattle.ifds_model.specs.Runs.{HasCount}
use Rattle.ifds_model.specs.State.{IsDistinct}

-- more than so many distinct members of the set stand in a list
pub record HasMoreThan {X : Type 0} (set : X → Type 0) (n : ℕ) : Type 0 where
  pub list : List X
  pub distinct : IsDistinct list
  pub members : (x : X) → Contains list x → set x
  pub longer : n < length list

-- such a set has no count up to that number
pub no_count : {X : Type 0} (set : X → Type 0) (limit : ℕ) → HasMoreThan set limit → (n : ℕ) → HasCount set n → limit < n
no_count set limit more n count = omega (arith, no_more_than more.list count.0 more.distinct (λ x has. count.1.whole x (more.members x has)), more.longer, count.2)
