use Rattle.std.proofs.Common.{length}
use Rattle.flat_rows.specs.Chains.{AreChains}
use Rattle.flat_rows.proofs.Linking.{RowFrom}
use Rattle.flat_rows.proofs.chains.add_row.Given as goal

abbrev pub invariant-loop-at : goal.invariant-loop-at
invariant-loop-at l = AreChains (RowFrom l.rows l.node l.at-index) (length l.rows) l.heads l.links.items
