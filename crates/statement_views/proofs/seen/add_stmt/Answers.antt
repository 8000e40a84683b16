use Rattle.std.proofs.Common.{◌∙◌, ◌++◌, ◌∷◌, List, [], sym, subst}
use Rattle.std.proofs.lemmas.Result.{on_ok_weaker}
use Rattle.jimple_tree.specs.declared.tree.Class.{Class}
use Rattle.source_sink.specs.declared.line.Line.{Line}
use Rattle.access_path.specs.declared.view.View.{View}
use Rattle.call_graph.proofs.Knowing.{as_before}
use Rattle.statement_views.specs.Seen.{AreSeen, AreTargets}
use Rattle.statement_views.proofs.Seeing.{one_more}
use Rattle.statement_views.proofs.seen.add_stmt.Goals as goal

pub returns-clause-seen : goal.returns-clause-seen
returns-clause-seen c =
    let cs = c.args.table.now in
    let lines = c.args.known.now.lines in
    let stmt = c.args.stmt.now in
    let view = c.in_ok-add_view.ensures.added in
    on_ok_weaker c.add_targets.result
    (λ row.
    let targets = as_before (λ (ks : List Class) (ls : List Line). AreTargets ks ls stmt row.0) c.add_view.new.known.classes cs c.add_view.new.known.lines lines (c.in_ok-add_view.ensures.classes ∙ c.requires.table) c.in_ok-add_view.ensures.lines row.1 in
    let all = one_more cs lines c.args.views.now.items c.args.targets.now stmt view.0 row.0 c.requires.seen c.requires.next view.1 targets in
    subst (λ (vs : List View). AreSeen cs lines vs c.add_targets.new.targets) (sym view.2) (subst (AreSeen cs lines (c.args.views.now.items ++ view.0 ∷ [])) (sym row.2) all))
    c.add_targets.ensures.added
