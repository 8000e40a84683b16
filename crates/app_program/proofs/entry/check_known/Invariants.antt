use Rattle.std.proofs.Common.{take}
use Rattle.app_program.specs.Entry.{AreKnown}
use Rattle.app_program.proofs.entry.check_known.Given as goal

-- those so far are known
abbrev pub invariant-loop-component : goal.invariant-loop-component
invariant-loop-component l = AreKnown l.fn.table (take l.component-index l.components)
