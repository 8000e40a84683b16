use Rattle.std.proofs.Common.{◌≡◌, ◌<◌, length, get_or, arith}
use Rattle.reach_rows.proofs.Backwards.{adds_more}
use Rattle.reach_rows.proofs.backward.add_to.Goals as goal

pub loop-other-preserved : goal.loop-other-preserved
loop-other-preserved c =
    let others = c.args.others.now in
    let i = c.loop-other.other-index in
    let was = c.loop-other.invariant in
    adds_more others i c.args.node c.args.rows.now c.loop-other.rows c.add_at.new.rows c.loop-other-test.true
    (let below : get_or others i 0 < length c.args.rows.now = c.requires i 0 c.loop-other-test.true in let long : length c.loop-other.rows ≡ length c.args.rows.now = was.count in omega arith) was c.in_ok-add_at.ensures
