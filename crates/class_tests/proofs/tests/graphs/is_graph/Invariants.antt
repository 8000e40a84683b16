use Rattle.std.proofs.Common.{◌<◌, List, ℕ, length}
use Rattle.std.specs.Prelude.{All}
use Rattle.std.specs.List.{AllWithin}
use Rattle.class_tests.proofs.tests.graphs.is_graph.Given as goal

abbrev pub invariant-loop-row : goal.invariant-loop-row
invariant-loop-row l = AllWithin (λ (ns : List ℕ). All (λ b. b < length l.rows) ns) l.rows 0 l.row-index
