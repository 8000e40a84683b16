use Rattle.std.proofs.Common.{◌↔◌, ◌⊎◌, ℕ, Contains, take}
use Rattle.statement_graph.specs.Successors.{IsCaught}
use Rattle.statement_graph.proofs.successors.add_handlers.Given as goal

abbrev pub invariant-loop-catch : goal.invariant-loop-catch
invariant-loop-catch l = (t : ℕ) → Contains l.places t ↔ (Contains l.fn.places t ⊎ IsCaught (take l.catch-index l.catches) l.place t)
