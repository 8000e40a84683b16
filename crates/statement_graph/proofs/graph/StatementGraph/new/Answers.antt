use Rattle.std.proofs.Common.{◌∙◌, arith}
use Rattle.flat_rows.specs.Converse.{IsConverse}
use Rattle.statement_graph.specs.Statements.{Leads}
use Rattle.clean_base.specs.declared.ids.StmtId.{StmtId}
use Rattle.statement_graph.proofs.Ends.{back_leads, ends_are, row_leads, row_rises, rows_all, rows_graph}
use Rattle.statement_graph.proofs.Standing.{first_whole}
use Rattle.statement_graph.proofs.graph.StatementGraph.new.Goals as goal

pub converse-requires-clause-graph : goal.converse-requires-clause-graph
converse-requires-clause-graph c =
    let l = c.in_ok-firsts.field-0 in
    rows_graph c.args.table.now l.firsts.items l.owners.items l.rows c.in_ok-firsts.ensures c.given-classes.ensures.well_formed

pub converse-requires-clause-few : goal.converse-requires-clause-few
converse-requires-clause-few c =
    let l = c.in_ok-firsts.field-0 in
    let all = rows_all c.args.table.now l.firsts.items l.owners.items l.rows c.in_ok-firsts.ensures in
    let few = c.given-classes.ensures.table.stmts in
    omega (arith, all, few)

pub invariant_of-result : goal.invariant_of-result
invariant_of-result c =
    let cs = c.args.table.now in
    let l = c.in_ok-firsts.field-0 in
    let are = c.in_ok-firsts.ensures in
    let back = c.in_ok-back.back in
    let is : IsConverse l.rows back = c.in_ok-back.ensures in
    let all = rows_all cs l.firsts.items l.owners.items l.rows are in
    record {
      well_formed = c.given-classes.ensures.well_formed;
      few_methods = c.given-classes.ensures.table.methods;
      few_stmts = c.given-classes.ensures.table.stmts;
      listed = (l.rows, are);
      whole = first_whole cs;
      forth = ends_are cs (Leads cs) l.rows c.in_ok-succs.succs all (row_rises cs l.firsts.items l.owners.items l.rows are) (row_leads cs l.firsts.items l.owners.items l.rows are) c.in_ok-succs.ensures;
      back = ends_are cs (λ (s q : StmtId). Leads cs q s) back c.in_ok-preds.preds (is.count ∙ all) is.ascending (back_leads cs l.firsts.items l.owners.items l.rows are back is) c.in_ok-preds.ensures;
    }
