use Rattle.std.proofs.Common.{◌≡◌, ◌++◌, flat_map, take}
use Rattle.leak_report.specs.Report.{step_text}
use Rattle.leak_report.proofs.report.write_steps.Given as goal

abbrev pub invariant-loop-i : goal.invariant-loop-i
invariant-loop-i l = l.out.items ≡ l.fn.out.items ++ flat_map (step_text l.program) (take l.i l.fields)
