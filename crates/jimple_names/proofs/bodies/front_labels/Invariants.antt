use Rattle.std.proofs.Common.{◌≡◌, take, map}
use Rattle.jimple_names.specs.Walking.{label_of}
use Rattle.jimple_names.proofs.bodies.front_labels.Given as goal

abbrev pub invariant-loop-token : goal.invariant-loop-token
invariant-loop-token l = l.labels.items ≡ map (label_of l.bytes 0) (take l.token-index l.tokens)
