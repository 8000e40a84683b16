use Rattle.std.proofs.Common.{get_or, refl}
use Rattle.class_table.proofs.Marked.{spread_more}
use Rattle.class_table.proofs.marks.mark_all.Goals as goal

pub loop-node-preserved : goal.loop-node-preserved
loop-node-preserved c =
    let nodes = c.args.nodes.now in
    let i = c.loop-node.node-index in
    spread_more nodes i (get_or nodes i 0) c.args.marks.now c.loop-node.marks _ c.loop-node-test.true refl (c.requires i 0 c.loop-node-test.true) refl c.loop-node.invariant
