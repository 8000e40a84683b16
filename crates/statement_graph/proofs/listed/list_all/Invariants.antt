use Rattle.statement_graph.specs.Kept.{AreListed}
use Rattle.statement_graph.proofs.listed.list_all.Given as goal

abbrev pub invariant-loop-number : goal.invariant-loop-number
invariant-loop-number l = AreListed l.table l.number l.listed.firsts.items l.listed.owners.items l.listed.rows
