use Rattle.leak_report.proofs.Named.{own_lines}
use Rattle.leak_report.proofs.report.sorted_lines.Goals as goal

pub returns-clause-own : goal.returns-clause-own
returns-clause-own c =
    let moved = rw c.in_ok-lines.ensures at c.in_ok-sort.ensures.permutation in
    own_lines c.args.program.now c.args.leaks.now c.sort.new.self.items c.requires moved
