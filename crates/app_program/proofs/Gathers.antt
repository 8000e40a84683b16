-- What was gathered are the methods and the statements of the classes.
use Rattle.std.proofs.Common.{◌↔◌, ◌<◌, List, [], length, map, ◌∙◌, subst, arith}
use Rattle.std.specs.List.Sorted.{IsStrictlyIncreasing}
use Rattle.std.proofs.lemmas.List.{get_or_default}
use Rattle.clean_base.specs.declared.ids.MethodId.{MethodId}
use Rattle.clean_base.specs.declared.ids.StmtId.{StmtId}
use Rattle.jimple_tree.specs.declared.tree.Class.{Class}
use Rattle.source_sink.specs.declared.line.Line.{Line}
use Rattle.class_table.specs.Methods.{stmts_in}
use Rattle.flow_rules.specs.Code.{Follows}
use Rattle.statement_graph.specs.Statements.{IsOf, Leads}
use Rattle.program_code.specs.Parts.{code_of}
use Rattle.program_code.specs.declared.parts.Parts.{Parts}
use Rattle.app_program.specs.Gathered.{AreGathered}
use Rattle.app_program.specs.Program.{AreMethods, AreStmts}
use Rattle.app_program.proofs.Rowed.{row_has}

module _ (cs : List Class) (lines : List Line) (p : Parts) (are : AreGathered cs lines p) where
  pub gathered_methods : AreMethods cs (code_of p)
  gathered_methods = record {
    count = are.statements.methods;
    firsts = λ m s at. (are.statements.begins m s at).0;
    counted = are.counted;
    locals = are.locals;
  }

  -- a statement of a method is one of all
  pub of_within : (s : StmtId) (m : MethodId) → IsOf cs s m → s.0 < length (stmts_in cs)
  of_within s m own = let stands = ((are.statements.owners_are s m).1 own).0 in let count = are.statements.owned in omega (arith, stands, count)

  pub follows : (s q : StmtId) → Follows (code_of p) s q ↔ Leads cs s q
  follows s q = (
    (λ h.
        let below = h.1.0 in
        let count = are.statements.forth.counted in
        (are.statements.forth.exact s q (omega (arith, below, count))).0 ((row_has p.nexts s.0 q).1 h)),
    (λ leads.
        let (m, own, other) = are.statements.together s q leads in
        (row_has p.nexts s.0 q).0 ((are.statements.forth.exact s q (of_within s m own)).1 leads)),
  )

  pub gathered_stmts : AreStmts cs lines (code_of p)
  gathered_stmts = record {
    owned = are.statements.owned;
    owners = are.statements.owners_are;
    viewed = are.all_seen;
    views = are.seen.views_are;
    led = are.statements.forth.counted;
    ascending = λ s qs at.
        subst (λ (xs : List StmtId). IsStrictlyIncreasing (map (λ (q : StmtId). q.0) xs))
        (get_or_default p.nexts s [] qs at.0 ∙ at.1) (are.statements.forth.ascending s);
    nexts = follows;
    called = are.seen.counted ∙ are.all_seen;
    targets = are.seen.rows_are;
  }
