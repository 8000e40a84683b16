use Rattle.std.proofs.Common.{◌∙◌, ℕ, List, sym, subst, arith}
use Rattle.clean_base.specs.Lists.{At}
use Rattle.class_table.specs.Methods.{stmts_in}
use Rattle.source_sink.specs.declared.line.Line.{Line}
use Rattle.statement_views.specs.Seen.{AreSeen}
use Rattle.statement_views.proofs.seen.add_stmts.Goals as goal

pub add_stmt-requires-clause-table : goal.add_stmt-requires-clause-table
add_stmt-requires-clause-table c = c.loop-stmt.invariant.classes ∙ c.requires.table

pub add_stmt-requires-clause-next : goal.add_stmt-requires-clause-next
add_stmt-requires-clause-next c =
    subst (λ (n : ℕ). At (stmts_in c.args.table.now) n c.stmt-item.result) (sym c.loop-stmt.invariant.more) (c.requires.next c.loop-stmt.stmt-index c.stmt-item.result (omega arith, sym c.stmt-item.is))

pub add_stmt-requires-clause-seen : goal.add_stmt-requires-clause-seen
add_stmt-requires-clause-seen c =
    subst (λ (ls : List Line). AreSeen c.args.table.now ls c.loop-stmt.views.items c.loop-stmt.targets) (sym c.loop-stmt.invariant.lines) c.loop-stmt.invariant.seen

pub loop-stmt-preserved : goal.loop-stmt-preserved
loop-stmt-preserved c =
    let before = c.loop-stmt.invariant in
    record {
      classes = c.in_ok-add_stmt.ensures.classes ∙ before.classes;
      lines = c.in_ok-add_stmt.ensures.lines ∙ before.lines;
      more = let one = c.in_ok-add_stmt.ensures.more in let all = before.more in omega (arith, one, all);
      seen = subst (λ (ls : List Line). AreSeen c.args.table.now ls c.add_stmt.new.views.items c.add_stmt.new.targets) before.lines c.in_ok-add_stmt.ensures.seen;
    }
