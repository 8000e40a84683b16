-- Why a graph has no order.
use Rattle.std.specs.Prelude.{ℕ, List}
use Rattle.reach_rows.specs.declared.ordering.OrderStop.{OrderStop}
use Rattle.reach_rows.specs.declared.ordering.OrderStop.TheVariants.{Cycle, OutOfMemory}
use Rattle.reach_rows.specs.Graphs.{IsFirstOnCycle}

abbrev pub HasCycle : List (List ℕ) → OrderStop → Type 0
HasCycle rows (Cycle a) = IsFirstOnCycle rows a
HasCycle rows OutOfMemory = Unit {0}
