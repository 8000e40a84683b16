use Rattle.std.proofs.Common.{arith, subst}
use Rattle.clean_base.specs.declared.ids.MethodId.{MethodId}
use Rattle.flow_rules.specs.Code.{Leads}
use Rattle.taint_problem.proofs.Calling.{one_owner}
use Rattle.taint_problem.proofs.crossing.runs_in.Goals as goal

pub returns-then-at-stmts : goal.returns-then-at-stmts
returns-then-at-stmts c = (
  (λ is. absurd (cc)),
  (λ runs. absurd (omega (arith, runs.4.0, c.if-at-stmts.true, c.stmts.ensures.owners))),
)

pub returns : goal.returns
returns c =
    let code = c.args.program.now.code in
    let are = c.targets_of.ensures.are in
    let led = c.leads_from.ensures in
    let here = c.method_of.ensures.here in (
      (λ is. let from = led.0 is in (from.0, c.method_of.result, (are from.0).0 from.1, from.2, here)),
      (λ runs. led.1 (runs.0, (are runs.0).1 runs.2, subst (λ (n : MethodId). Leads code runs.0 n) (one_owner code c.args.at runs.1 c.method_of.result runs.4 here) runs.3)),
    )
