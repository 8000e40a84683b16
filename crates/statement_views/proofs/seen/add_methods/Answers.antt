use Rattle.std.proofs.Common.{◌≡◌, ◌+◌, ◌∙◌, ℕ, List, length, take, ap, sym, subst, arith}
use Rattle.std.proofs.lemmas.List.{take_all}
use Rattle.clean_base.specs.Lists.{At}
use Rattle.jimple_tree.specs.Bodies.{all_stmts, stmts_of}
use Rattle.jimple_tree.specs.declared.tree.Method.{Method}
use Rattle.jimple_tree.specs.declared.tree.Stmt.{Stmt}
use Rattle.class_table.specs.Methods.{stmts_in}
use Rattle.source_sink.specs.declared.line.Line.{Line}
use Rattle.statement_views.specs.Seen.{AreSeen}
use Rattle.statement_views.proofs.Seeing.{flat_at, flat_more}
use Rattle.statement_views.proofs.seen.add_methods.Goals as goal

pub add_stmts-requires-clause-table : goal.add_stmts-requires-clause-table
add_stmts-requires-clause-table c = c.loop-method.invariant.classes ∙ c.requires.table

pub add_stmts-requires-clause-next : goal.add_stmts-requires-clause-next
add_stmts-requires-clause-next c = λ p stmt at.
    let methods = c.args.methods.now in
    let i = c.loop-method.method-index in
    let method = c.method-item.result in
    let here = subst (λ (ss : List Stmt). At ss p stmt) c.stmts_of.ensures at in
    let stands = c.requires.next (length (all_stmts (take i methods)) + p) stmt (flat_at stmts_of methods i method p stmt (omega arith, sym c.method-item.is) here) in
    let same : length c.args.views.now.items + (length (all_stmts (take i methods)) + p) ≡ length c.loop-method.views.items + p = let more = c.loop-method.invariant.more in omega (arith, more) in
    subst (λ (n : ℕ). At (stmts_in c.args.table.now) n stmt) same stands

pub add_stmts-requires-clause-seen : goal.add_stmts-requires-clause-seen
add_stmts-requires-clause-seen c =
    subst (λ (ls : List Line). AreSeen c.args.table.now ls c.loop-method.views.items c.loop-method.targets) (sym c.loop-method.invariant.lines) c.loop-method.invariant.seen

pub loop-method-preserved : goal.loop-method-preserved
loop-method-preserved c =
    let before = c.loop-method.invariant in
    record {
      classes = c.in_ok-add_stmts.ensures.classes ∙ before.classes;
      lines = c.in_ok-add_stmts.ensures.lines ∙ before.lines;
      more =
          let some = c.in_ok-add_stmts.ensures.more in
          let long = ap (λ (ss : List Stmt). length ss) c.stmts_of.ensures in
          let all = before.more in
          let next = flat_more stmts_of c.args.methods.now c.loop-method.method-index c.method-item.result (omega arith, sym c.method-item.is) in
          omega (arith, some, long, all, next);
      seen = subst (λ (ls : List Line). AreSeen c.args.table.now ls c.add_stmts.new.views.items c.add_stmts.new.targets) before.lines c.in_ok-add_stmts.ensures.seen;
    }

pub returns-clause-more : goal.returns-clause-more
returns-clause-more c = c.loop-method.invariant.more ∙ ap (λ (ms : List Method). length c.args.views.now.items + length (all_stmts ms)) (take_all c.loop-method.method-index c.args.methods.now (omega arith))
