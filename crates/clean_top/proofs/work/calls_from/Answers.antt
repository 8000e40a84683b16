use Rattle.clean_top.proofs.Worked.{calls_come}
use Rattle.clean_top.proofs.work.calls_from.Goals as goal

pub returns : goal.returns
returns c = calls_come c.args.input.now c.args.root c.in_ok-graph.field-0 c.in_ok-graph.ensures.graph c.in_ok-graph.ensures.only
