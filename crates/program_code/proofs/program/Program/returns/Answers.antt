use Rattle.std.specs.Prelude.{◌↔◌, Contains}
use Rattle.std.proofs.Common.{subst}
use Rattle.clean_base.specs.declared.ids.StmtId.{StmtId}
use Rattle.flow_rules.specs.Code.{StandsIn, IsReturn}
use Rattle.program_code.specs.App.{App}
use Rattle.program_code.proofs.program.Program.returns.Goals as goal

pub returns : goal.returns
returns c = subst (λ (app : App). (x : StmtId) → Contains c.row.result.now x ↔ (StandsIn app.code x c.args.m × IsReturn app.code x)) c.self.view_is (rw c.row.ensures (c.self.invariant.returns.each c.args.m))
