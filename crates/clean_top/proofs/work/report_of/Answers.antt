use Rattle.std.proofs.Common.{ap}
use Rattle.clean_top.proofs.Worked.{commit_stops, own_listed, report_comes}
use Rattle.clean_top.proofs.work.report_of.Goals as goal

pub returns-in-Err : goal.returns-in-Err
returns-in-Err c =
    let refused = rw (c.in_ok-state.ensures.problem, c.new-problem.ensures.k, c.new-problem.ensures.program) at c.in-Err.ensures.refused in
    rw c.of_commit.ensures (commit_stops c.args.tuning c.args.program.now c.in_ok-state.state.view.max_edges (ap (λ v. v.max_edges) c.in_ok-state.ensures.opened.is) c.in-Err.stop refused)

pub write_report-requires-clause-own : goal.write_report-requires-clause-own
write_report-requires-clause-own c =
    let problem = c.new-problem.result in
    let listed = rw c.in_ok-state.ensures.problem at c.in-Ok.ensures.leaks in
    let own = own_listed problem.program.now.code problem.k c.in-Ok.answer.marks.items listed c.new-problem.ensures.leaks in
    rw c.as_slice-leaks.ensures.value (rw c.new-problem.ensures.program at own)

pub returns : goal.returns
returns c =
    let room = ap (λ v. v.max_edges) c.in_ok-state.ensures.opened.is in
    report_comes c.args.tuning c.args.program.now _
    (record {
      edges = c.in-Ok.answer.edges;
      within = rw room at c.in-Ok.ensures.limit;
      reports = rw (c.new-problem.ensures.k, c.new-problem.ensures.program) at c.in_ok-text.ensures.is;
    })
    (rw (c.new-problem.ensures.k, c.new-problem.ensures.program) at c.in_ok-text.ensures.only)
