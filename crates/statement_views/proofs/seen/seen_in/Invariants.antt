use Rattle.std.proofs.Common.{◌≡◌, length, take}
use Rattle.class_table.specs.Methods.{stmts_in}
use Rattle.statement_views.specs.Seen.{AreSeen}
use Rattle.statement_views.proofs.seen.seen_in.Given as goal

abbrev pub invariant-loop-class : goal.invariant-loop-class
invariant-loop-class l = record {
  classes : l.known.classes ≡ l.table;
  lines : l.known.lines ≡ l.lists;
  more : length l.views.items ≡ length (stmts_in (take l.class-index l.table));
  seen : AreSeen l.table l.lists l.views.items l.targets;
}
