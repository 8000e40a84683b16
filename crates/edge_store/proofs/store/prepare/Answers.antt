use Rattle.std.proofs.Common.{arith}
use Rattle.edge_store.proofs.Stored.{pad_more}
use Rattle.edge_store.proofs.store.prepare.Goals as goal

pub returns-in_err-push_table-clause-more : goal.returns-in_err-push_table-clause-more
returns-in_err-push_table-clause-more c = pad_more c.args.tables.now.items c.loop.tables.items c.push_table.new.tables.items c.loop.invariant.padded c.push_table.ensures.more

pub loop-preserved : goal.loop-preserved
loop-preserved c = record {
  padded = pad_more c.args.tables.now.items c.loop.tables.items c.push_table.new.tables.items c.loop.invariant.padded c.push_table.ensures.more;
  counted = omega (arith, c.in_ok-push_table.ensures.ok);
}

pub returns-clause-more : goal.returns-clause-more
returns-clause-more c = pad_more c.args.tables.now.items c.loop.tables.items c.push_table-2.new.tables.items c.loop.invariant.padded c.push_table-2.ensures.more
