use Rattle.statement_graph.proofs.Rowed.{adds_none}
use Rattle.statement_graph.proofs.graph.add_ids.Goals as goal

pub loop-number-init : goal.loop-number-init
loop-number-init c = adds_none c.args.rows.now c.requires
