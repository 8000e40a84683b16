use Rattle.std.proofs.Common.{◌≡◌, ◌++◌, drop}
use Rattle.jimple_tree.specs.Labels.{named_below}
use Rattle.jimple_tree.specs.Statements.{lines_from}
use Rattle.jimple_tree.proofs.write.write_lines.Given as goal

abbrev pub invariant-loop-place : goal.invariant-loop-place
invariant-loop-place l =
    record {
      number : l.before ≡ named_below l.body l.place;
      lines : l.out.items ++ lines_from l.body l.place (drop l.place l.body.stmts) ≡ l.fn.out.items ++ lines_from l.body 0 l.body.stmts;
    }
