use Rattle.std.proofs.Common.{◌∙◌, arith}
use Rattle.class_table.proofs.Rowed.{blanks_more}
use Rattle.class_table.proofs.rows.add_empty.Goals as goal

pub loop-preserved : goal.loop-preserved
loop-preserved c = record {
  items = blanks_more c.args.rows.now.items c.loop.rows.items c.push.new.self.items c.loop.counter c.from_vec.result c.loop.invariant.long c.loop.invariant.items (c.from_vec.ensures ∙ c.new.ensures.items) c.in_ok-push.ensures.items;
  long = omega (arith, c.loop.invariant.long);
}
