use Rattle.std.proofs.Common.{◌≡◌, rules}
use Rattle.access_path.specs.Paths.{sleep}
use Rattle.access_path.specs.declared.fact.Fact.TheVariants.{Taint as Tainted}
use Rattle.access_path.specs.declared.fact.Taint.{Taint}
use Rattle.flow_rules.specs.Border.{ComesAhead, ComesOut, ReturnsAhead, ReturnsBehind}
use Rattle.flow_rules.specs.Only.{IsIn}
use Rattle.clean_base.proofs.Appended.{appends_same_if}
use Rattle.flow_rules.proofs.Lifted.{of_one, of_one_with_zero}
use Rattle.border_flow.proofs.caller.back.Goals as goal

pub returns-in_ok-add-in-Taint-clause-ahead : goal.returns-in_ok-add-in-Taint-clause-ahead
returns-in_ok-add-in-Taint-clause-ahead c =
    let call = c.args.call.now in
    let R : Taint → Taint → Type 0 = λ t u. ComesAhead call t.base t u in
    rw c.in-Taint.is (appends_same_if c.add-in-Taint.result (IsIn c.comes_ahead.result) (ReturnsAhead call (Tainted c.in-Taint.t)) _ _ (of_one_with_zero R c.in-Taint.t c.comes_ahead.result c.comes_ahead.ensures) (search rules))

pub returns-in_ok-add-in-Taint-clause-behind : goal.returns-in_ok-add-in-Taint-clause-behind
returns-in_ok-add-in-Taint-clause-behind c =
    let call = c.args.call.now in
    let R : Taint → Taint → Type 0 = λ t u. (v : Taint) × ComesOut call t v × (u ≡ sleep call.stmt v) in
    rw c.in-Taint.is (appends_same_if c.add-in-Taint.result (IsIn c.comes_behind.result) (ReturnsBehind call call.stmt (Tainted c.in-Taint.t)) _ _ (of_one R c.in-Taint.t c.comes_behind.result c.comes_behind.ensures) c.add-in-Taint.ensures)
