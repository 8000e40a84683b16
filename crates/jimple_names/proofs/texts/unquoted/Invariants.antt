use Rattle.std.proofs.Common.{◌≡◌, take}
use Rattle.jimple_names.specs.Texts.{unquoted}
use Rattle.jimple_names.proofs.texts.unquoted.Given as goal

abbrev pub invariant-loop-c : goal.invariant-loop-c
invariant-loop-c l = l.name.items ≡ unquoted (take l.c-index l.word)
