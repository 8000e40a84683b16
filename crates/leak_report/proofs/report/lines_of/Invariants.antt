use Rattle.std.proofs.Common.{◌≡◌, map, take}
use Rattle.leak_report.specs.Report.{line_of}
use Rattle.leak_report.proofs.report.lines_of.Given as goal

abbrev pub invariant-loop-leak : goal.invariant-loop-leak
invariant-loop-leak l = l.lines.items ≡ map (line_of l.program) (take l.leak-index l.leaks)
