use Rattle.std.proofs.Common.{◌≡◌, map, take}
use Rattle.jimple_tree.specs.Canonical.{canonical}
use Rattle.jimple_rewrite.proofs.texts.texts_of.Given as goal

abbrev pub invariant-loop-class : goal.invariant-loop-class
invariant-loop-class l = l.texts.items ≡ map canonical (take l.class-index l.classes)
