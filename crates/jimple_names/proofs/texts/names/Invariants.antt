use Rattle.std.proofs.Common.{◌≡◌, map, take}
use Rattle.jimple_names.specs.Texts.{name_of}
use Rattle.jimple_names.proofs.texts.names.Given as goal

abbrev pub invariant-loop-token : goal.invariant-loop-token
invariant-loop-token l = l.names.items ≡ map (name_of l.bytes) (take l.token-index l.tokens)
