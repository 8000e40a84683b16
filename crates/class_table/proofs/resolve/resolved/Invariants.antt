use Rattle.std.proofs.Common.{◌≡◌, length}
use Rattle.class_table.proofs.Searched.{AreAnswers}
use Rattle.class_table.proofs.resolve.resolved.Given as goal

abbrev pub invariant-loop-place : goal.invariant-loop-place
invariant-loop-place l = record {
  count : length l.methods.items ≡ l.place-index;
  answers : AreAnswers l.classes l.sig l.methods.items;
}
