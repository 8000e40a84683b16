use Rattle.std.proofs.Common.{◌≡◌, ◌+◌, length, take}
use Rattle.jimple_tree.specs.Bodies.{all_stmts}
use Rattle.statement_views.specs.Seen.{AreSeen}
use Rattle.statement_views.proofs.seen.add_methods.Given as goal

abbrev pub invariant-loop-method : goal.invariant-loop-method
invariant-loop-method l = record {
  classes : l.known.classes ≡ l.fn.known.classes;
  lines : l.known.lines ≡ l.fn.known.lines;
  more : length l.views.items ≡ length l.fn.views.items + length (all_stmts (take l.method-index l.methods));
  seen : AreSeen l.table l.fn.known.lines l.views.items l.targets;
}
