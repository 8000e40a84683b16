use Rattle.std.proofs.Common.{◌≡◌, ◌++◌, flat_map, take}
use Rattle.leak_report.specs.Report.{line_text}
use Rattle.leak_report.proofs.report.write_lines.Given as goal

abbrev pub invariant-loop-line : goal.invariant-loop-line
invariant-loop-line l = l.out.items ≡ l.fn.out.items ++ flat_map (line_text l.program) (take l.line-index l.lines)
