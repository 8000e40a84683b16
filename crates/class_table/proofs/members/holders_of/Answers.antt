use Rattle.class_table.proofs.Holding.{holders_all}
use Rattle.class_table.proofs.members.holders_of.Goals as goal

pub loop-at-init : goal.loop-at-init
loop-at-init c = c.new-holders.ensures c.args.classes.now

pub returns : goal.returns
returns c = holders_all c.args.classes.now c.loop-at.at c.loop-at.holders c.loop-at-test.false c.loop-at.invariant
