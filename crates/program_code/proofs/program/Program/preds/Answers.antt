use Rattle.std.specs.Prelude.{◌↔◌, Contains}
use Rattle.std.proofs.Common.{subst, sym}
use Rattle.clean_base.specs.declared.ids.StmtId.{StmtId}
use Rattle.flow_rules.specs.Code.{Follows}
use Rattle.flow_rules.specs.Own.{IsStmt}
use Rattle.program_code.specs.App.{App}
use Rattle.program_code.proofs.Places.{last_within}
use Rattle.program_code.proofs.program.Program.preds.Goals as goal

pub returns : goal.returns
returns c =
    let there = subst (λ (app : App). IsStmt app.code c.args.s) (sym c.self.view_is) c.requires in
    let are = c.self.invariant.preds.each c.args.s in
    record {
      are = subst (λ (app : App). (x : StmtId) → Contains c.row.result.now x ↔ Follows app.code x c.args.s) c.self.view_is (rw c.row.ensures are);
      stmts = subst (λ (app : App). (x : StmtId) → Contains c.row.result.now x → IsStmt app.code x) c.self.view_is (rw c.row.ensures (λ x has. last_within _ c.self.invariant.whole x c.args.s ((are x).0 has)));
    }
