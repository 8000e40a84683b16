use Rattle.std.specs.Prelude.{◌<◌, length, slice_index_or}
use Rattle.std.proofs.Common.{sym, subst}
use Rattle.flow_rules.specs.Own.{IsStmt}
use Rattle.program_code.specs.App.{App}
use Rattle.program_code.proofs.Places.{owner_within}
use Rattle.program_code.proofs.program.Program.method_of.Goals as goal

pub returns-clause-method : goal.returns-clause-method
returns-clause-method c =
    let there = subst (λ (app : App). IsStmt app.code c.args.s) (sym c.self.view_is) c.requires in
    subst (λ (app : App). (slice_index_or c.as_slice.result.now c.args.s.0 (record { 0 = 0 })).0 < length app.code.firsts) c.self.view_is
    (rw c.as_slice.ensures (owner_within _ c.self.invariant.whole c.args.s there))
