use Rattle.std.proofs.Common.{◌∙◌, [], arith}
use Rattle.std.proofs.lemmas.List.{get_or_read}
use Rattle.reach_rows.proofs.Backwards.{back_more, back_all}
use Rattle.reach_rows.proofs.backward.add_all.Goals as goal

pub loop-node-preserved : goal.loop-node-preserved
loop-node-preserved c =
    let rows = c.args.rows.now in
    let node = c.loop-node.node in
    back_more rows node c.as_slice.result.now c.loop-node.backs c.add_to.new.rows (c.as_slice.ensures ∙ get_or_read rows node c.index-rows-node.result c.loop-node-test.true c.index-rows-node.is []) c.loop-node.invariant c.in_ok-add_to.ensures

pub returns : goal.returns
returns c = back_all c.args.rows.now c.loop-node.node c.loop-node.backs (omega (arith, c.loop-node-test.false)) c.loop-node.invariant
