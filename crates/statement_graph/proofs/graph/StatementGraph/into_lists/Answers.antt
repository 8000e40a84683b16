use Rattle.std.proofs.Common.{List, subst, sym}
use Rattle.clean_base.specs.declared.ids.MethodId.{MethodId}
use Rattle.clean_base.specs.declared.ids.StmtId.{StmtId}
use Rattle.jimple_tree.specs.declared.tree.Class.{Class}
use Rattle.statement_graph.specs.Statements.{AreStatements}
use Rattle.statement_graph.proofs.Ends.{kept_lists}
use Rattle.statement_graph.proofs.graph.StatementGraph.into_lists.Goals as goal

pub returns : goal.returns
returns c =
    let g = c.self.inside in
    let lists = kept_lists g.table.now g.firsts.items g.owners.items g.succs g.preds c.self.invariant in
    let firsts = subst (λ (fs : List StmtId). AreStatements g.table.now fs g.owners.items g.succs g.preds) (sym c.from_vec.ensures) lists in
    let owners = subst (λ (os : List MethodId). AreStatements g.table.now c.from_vec.result os g.succs g.preds) (sym c.from_vec-2.ensures) firsts in
    subst (λ (cs : List Class). AreStatements cs c.from_vec.result c.from_vec-2.result g.succs g.preds) c.self.view_is owners
