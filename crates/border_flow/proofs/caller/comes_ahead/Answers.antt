use Rattle.std.proofs.Common.{subst, sym}
use Rattle.access_path.specs.declared.fact.Base.{Base}
use Rattle.access_path.specs.declared.fact.Taint.{Taint}
use Rattle.flow_rules.specs.Border.{ComesAhead, ComesOut}
use Rattle.flow_rules.specs.Locals.{Holds}
use Rattle.flow_rules.specs.Only.{IsOnly}
use Rattle.flow_rules.proofs.Lifted.{only_also}
use Rattle.border_flow.proofs.caller.comes_ahead.Goals as goal

pub returns-in-Return : goal.returns-in-Return
returns-in-Return c = rw c.in-Return.is c.becomes.ensures

pub returns-in-This : goal.returns-in-This
returns-in-This c = subst (λ (b : Base). IsOnly (ComesAhead c.args.call.now b c.args.t.now) c.unless_written.result) (sym c.in-This.is) (only_also (ComesOut c.args.call.now c.args.t.now) (λ (u : Taint). Holds c.args.call.now.result u → ⊥) _ _ c.brought.ensures.only c.unless_written.ensures)

pub returns-in-Param : goal.returns-in-Param
returns-in-Param c = subst (λ (b : Base). IsOnly (ComesAhead c.args.call.now b c.args.t.now) c.unless_written-in-Param.result) (sym c.in-Param.is) (only_also (ComesOut c.args.call.now c.args.t.now) (λ (u : Taint). Holds c.args.call.now.result u → ⊥) _ _ c.brought-in-Param.ensures.only c.unless_written-in-Param.ensures)
