use Rattle.std.proofs.Common.{◌≡◌, map, take}
use Rattle.jimple_names.specs.Texts.{type_of}
use Rattle.jimple_names.proofs.texts.types_of.Given as goal

abbrev pub invariant-loop-ty : goal.invariant-loop-ty
invariant-loop-ty l = l.found.items ≡ map (type_of l.bytes) (take l.ty-index l.types)
