use Rattle.std.proofs.Common.{sym, subst}
use Rattle.reach_rows.specs.Graphs.{IsGraph}
use Rattle.app_program.proofs.Targets.{calls_graph}
use Rattle.app_program.proofs.calls.reach_of.Goals as goal

pub close-requires-clause-graph : goal.close-requires-clause-graph
close-requires-clause-graph c =
    subst IsGraph (sym c.as_slice.ensures.value) (calls_graph c.args.graph.now c.args.targets.now c.in_ok-calls.calls.items c.requires.methods c.in_ok-calls.ensures)
