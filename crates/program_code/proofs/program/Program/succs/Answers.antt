use Rattle.std.specs.Prelude.{◌↔◌, Contains}
use Rattle.std.proofs.Common.{subst, sym}
use Rattle.clean_base.specs.declared.ids.StmtId.{StmtId}
use Rattle.flow_rules.specs.Code.{Follows}
use Rattle.flow_rules.specs.Own.{IsStmt}
use Rattle.program_code.specs.App.{App}
use Rattle.program_code.specs.Parts.{code_of}
use Rattle.program_code.proofs.Places.{row_follows, next_within}
use Rattle.program_code.proofs.program.Program.succs.Goals as goal

pub returns : goal.returns
returns c =
    let there = subst (λ (app : App). IsStmt app.code c.args.s) (sym c.self.view_is) c.requires in
    let are = row_follows (code_of c.self.inside.parts) c.self.invariant.nexts c.args.s there in
    record {
      are = subst (λ (app : App). (x : StmtId) → Contains c.row.result.now x ↔ Follows app.code c.args.s x) c.self.view_is (rw c.row.ensures are);
      stmts = subst (λ (app : App). (x : StmtId) → Contains c.row.result.now x → IsStmt app.code x) c.self.view_is (rw c.row.ensures (λ x has. next_within (code_of c.self.inside.parts) c.self.invariant.whole c.args.s x ((are x).0 has)));
    }
