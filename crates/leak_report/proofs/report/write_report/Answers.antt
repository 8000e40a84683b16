use Rattle.leak_report.proofs.Ordered.{reports_once}
use Rattle.leak_report.proofs.report.write_report.Goals as goal

pub returns-clause-only : goal.returns-clause-only
returns-clause-only g c = λ n text leaky also.
    let report = c.in_ok-report.report in
    reports_once (g.P.Problem.machine c.args.problem.now) c.args.program.now c.args.edges n report.text text report.leaky leaky c.in_ok-report.ensures also
