use Rattle.std.proofs.Common.{refl}
use Rattle.class_table.proofs.Along.{taken_none, taken_some}
use Rattle.class_table.proofs.firsts.first_of.Goals as goal

pub loop-node-init : goal.loop-node-init
loop-node-init c = refl

pub returns-in-Some : goal.returns-in-Some
returns-in-Some c = taken_some c.args.places.now c.args.nodes.now c.loop-node.node-index c.in-Some.place c.loop-node-test.true c.in-Some.is c.loop-node.invariant

pub loop-node-preserved : goal.loop-node-preserved
loop-node-preserved c = taken_none c.args.places.now c.args.nodes.now c.loop-node.node-index c.loop-node-test.true c.in_default.not-Some c.loop-node.invariant
