use Rattle.std.proofs.Common.{◌≤◌, length}
use Rattle.flat_rows.specs.Chains.{AreChains, LeadsFrom}
use Rattle.flat_rows.proofs.chains.chains_of.Given as goal

abbrev pub invariant-loop-node : goal.invariant-loop-node
invariant-loop-node l = (l.node ≤ length l.rows) × AreChains (LeadsFrom l.rows l.node) (length l.rows) l.heads_slice l.links.items

abbrev pub decreases-loop-node : goal.decreases-loop-node
decreases-loop-node l = l.node
