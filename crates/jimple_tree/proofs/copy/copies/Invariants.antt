use Rattle.std.proofs.Common.{◌≡◌, take}
use Rattle.jimple_tree.proofs.copy.copies.Given as goal

-- the types before the place are copied
abbrev pub invariant-loop-ty : goal.invariant-loop-ty
invariant-loop-ty l = l.copies.items ≡ take l.ty-index l.types
