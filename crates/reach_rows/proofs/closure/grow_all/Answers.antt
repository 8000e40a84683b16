use Rattle.std.proofs.Common.{ℕ, List, get_or, refl, subst}
use Rattle.std.proofs.lemmas.List.{take_all}
use Rattle.reach_rows.specs.Bits.{AreClosed}
use Rattle.reach_rows.proofs.Closed.{closed_more}
use Rattle.reach_rows.proofs.Words.{grows_more}
use Rattle.reach_rows.proofs.closure.grow_all.Goals as goal

pub loop-node-preserved : goal.loop-node-preserved
loop-node-preserved c =
    let order = c.args.order.now in
    let i = c.loop-node.node-index in
    let old = c.args.bits.now in
    let mid = c.loop-node.bits in
    let new = c.grow_row-added.new.bits in
    let says = c.grow_row-added.ensures in
    let was = c.loop-node.invariant in
    record {
      grows = grows_more c.args.width old mid new c.loop-node.grown c.grow_row-added.result _ refl was.grows says.grows;
      sound = λ sound. says.sound (was.sound sound);
      closed = closed_more c.args.rows.now c.args.width i (get_or order i 0) order mid new c.loop-node.grown c.grow_row-added.result c.loop-node-test.true refl says.grows.same says.closed was.closed;
    }

pub returns-clause-closed : goal.returns-clause-closed
returns-clause-closed c none =
    subst (λ (ns : List ℕ). AreClosed c.args.rows.now c.args.width c.loop-node.bits ns) (take_all c.loop-node.node-index c.args.order.now c.loop-node-test.false) (c.loop-node.invariant.closed none)
