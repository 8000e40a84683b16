use Rattle.std.proofs.Common.{◌≡◌, ◌≤◌, drop}
use Rattle.jimple_words.specs.Kinds.{read_digits}
use Rattle.jimple_words.proofs.parameter.parameter_number.Given as goal

abbrev pub invariant-loop-digit : goal.invariant-loop-digit
invariant-loop-digit l = record {
  rest : read_digits 0 l.digits ≡ read_digits l.number (drop l.digit-index l.digits);
  few : l.number ≤ 254;
}
