use Rattle.std.proofs.Common.{◌↔◌, ◌<◌, List, Contains, All, length, subst, sym}
use Rattle.clean_base.specs.declared.ids.StmtId.{StmtId}
use Rattle.jimple_tree.specs.WellFormed.{IsWellFormed}
use Rattle.jimple_tree.specs.declared.tree.Class.{Class}
use Rattle.class_table.specs.Methods.{stmts_in}
use Rattle.statement_graph.specs.Statements.{AreRelated, Leads, Together}
use Rattle.statement_graph.proofs.Ends.{all_ends}
use Rattle.statement_graph.proofs.Standing.{leads_to, leads_together}
use Rattle.statement_graph.proofs.graph.StatementGraph.succs.Goals as goal
use Rattle.statement_graph.proofs.graph.StatementGraph.succs.Goals.{After-row}

exact : (c : After-row) (q : StmtId) → Contains c.row.result.now q ↔ Leads c.args.self.now c.args.s q
exact c q =
    let ends = subst (λ (cs : List Class). AreRelated cs (Leads cs) c.self.inside.succs) c.self.view_is c.self.invariant.forth in
    subst (λ (qs : List StmtId). Contains qs q ↔ Leads c.args.self.now c.args.s q) (sym c.row.ensures) (ends.exact c.args.s q c.requires)

pub returns-clause-exact : goal.returns-clause-exact
returns-clause-exact c = exact c

pub returns-clause-within : goal.returns-clause-within
returns-clause-within c =
    let cs = c.args.self.now in
    let formed = subst (All IsWellFormed) c.self.view_is c.self.invariant.well_formed in
    all_ends (Leads cs c.args.s) (λ (q : StmtId). q.0 < length (stmts_in cs)) c.row.result.now (exact c) (λ q leads. leads_to cs c.args.s q formed leads)

pub returns-clause-together : goal.returns-clause-together
returns-clause-together c =
    let cs = c.args.self.now in
    let formed = subst (All IsWellFormed) c.self.view_is c.self.invariant.well_formed in
    all_ends (Leads cs c.args.s) (Together cs c.args.s) c.row.result.now (exact c) (λ q leads. leads_together cs c.args.s q formed leads)
