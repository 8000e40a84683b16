use Rattle.std.proofs.Common.{take}
use Rattle.class_table.proofs.Signed.{NoneAmong}
use Rattle.class_table.proofs.index.find.Given as goal

abbrev pub invariant-loop-place : goal.invariant-loop-place
invariant-loop-place l = NoneAmong l.class l.sig (take l.place-index l.place-items)
