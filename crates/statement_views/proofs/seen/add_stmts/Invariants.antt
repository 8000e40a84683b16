use Rattle.std.proofs.Common.{◌≡◌, ◌+◌, length}
use Rattle.statement_views.specs.Seen.{AreSeen}
use Rattle.statement_views.proofs.seen.add_stmts.Given as goal

abbrev pub invariant-loop-stmt : goal.invariant-loop-stmt
invariant-loop-stmt l = record {
  classes : l.known.classes ≡ l.fn.known.classes;
  lines : l.known.lines ≡ l.fn.known.lines;
  more : length l.views.items ≡ length l.fn.views.items + l.stmt-index;
  seen : AreSeen l.table l.fn.known.lines l.views.items l.targets;
}
