use Rattle.std.proofs.Common.{◌≡◌, ◌∷◌, map, take}
use Rattle.jimple_names.specs.Keys.{type_key}
use Rattle.jimple_names.proofs.members.type_keys.Given as goal

abbrev pub invariant-loop-ty : goal.invariant-loop-ty
invariant-loop-ty l = l.keys.items ≡ type_key l.bytes l.fn.first ∷ map (type_key l.bytes) (take l.ty-index l.params)
