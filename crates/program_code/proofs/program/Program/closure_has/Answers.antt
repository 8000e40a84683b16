use Rattle.std.specs.Prelude.{◌↔◌, IsTrue}
use Rattle.std.proofs.Common.{subst, sym}
use Rattle.flow_rules.specs.Code.{Leads}
use Rattle.program_code.specs.App.{App, IsMethod}
use Rattle.program_code.proofs.Leads.{closure_leads}
use Rattle.program_code.proofs.program.Program.closure_has.Goals as goal

pub returns : goal.returns
returns c =
    let from = subst (λ (app : App). IsMethod app.code c.args.m) (sym c.self.view_is) c.requires.from in
    let to = subst (λ (app : App). IsMethod app.code c.args.n) (sym c.self.view_is) c.requires.to in
    subst (λ (app : App). IsTrue c.has.result ↔ Leads app.code c.args.m c.args.n) c.self.view_is
    (rw c.has.ensures (closure_leads _ c.self.invariant.graph c.self.invariant.calls c.self.inside.parts.closure c.self.invariant.closure c.args.m c.args.n from to))
