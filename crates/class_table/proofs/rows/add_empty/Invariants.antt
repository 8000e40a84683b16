use Rattle.std.proofs.Common.{◌≡◌, ◌≤◌, ◌++◌, ◌-◌, length, replicate, []}
use Rattle.class_table.proofs.rows.add_empty.Given as goal

abbrev pub invariant-loop : goal.invariant-loop
invariant-loop l = record {
  items : l.rows.items ≡ l.fn.rows.items ++ replicate (l.counter - length l.fn.rows.items) [];
  long : length l.fn.rows.items ≤ l.counter;
}
