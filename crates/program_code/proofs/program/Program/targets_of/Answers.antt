use Rattle.std.specs.Prelude.{◌↔◌, Contains}
use Rattle.std.proofs.Common.{subst, sym}
use Rattle.clean_base.specs.declared.ids.MethodId.{MethodId}
use Rattle.flow_rules.specs.Code.{IsTarget}
use Rattle.flow_rules.specs.Own.{IsStmt}
use Rattle.program_code.specs.App.{App, IsMethod}
use Rattle.program_code.specs.Parts.{code_of}
use Rattle.program_code.proofs.Places.{row_targets}
use Rattle.program_code.proofs.program.Program.targets_of.Goals as goal

pub returns : goal.returns
returns c =
    let there = subst (λ (app : App). IsStmt app.code c.args.s) (sym c.self.view_is) c.requires in
    let are = row_targets (code_of c.self.inside.parts) c.self.invariant.targets c.args.s there in
    record {
      are = subst (λ (app : App). (x : MethodId) → Contains c.row.result.now x ↔ IsTarget app.code c.args.s x) c.self.view_is (rw c.row.ensures are);
      methods = subst (λ (app : App). (x : MethodId) → Contains c.row.result.now x → IsMethod app.code x) c.self.view_is (rw c.row.ensures (λ x has. c.self.invariant.whole.targets c.args.s x ((are x).0 has)));
    }
