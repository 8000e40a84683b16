use Rattle.std.proofs.Common.{arith}
use Rattle.statement_graph.proofs.Gathered.{caught_at_more, caught_at_all}
use Rattle.statement_graph.proofs.bodies.add_catches.Goals as goal

pub loop-catch-preserved : goal.loop-catch-preserved
loop-catch-preserved c = record {
  len = omega (arith, c.add_catch.auto.lists, c.loop-catch.invariant.len);
  caught = caught_at_more c.args.catches.now c.loop-catch.catch-index c.catch-item.result c.args.lists.now c.loop-catch.lists c.add_catch.new.lists (omega arith) c.catch-item.is c.loop-catch.invariant.len
      c.loop-catch.invariant.caught c.in_ok-add_catch.ensures;
}

pub returns : goal.returns
returns c = caught_at_all c.args.catches.now c.loop-catch.catch-index c.args.lists.now c.loop-catch.lists c.loop-catch-test.false c.loop-catch.invariant.caught
