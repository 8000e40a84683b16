use Rattle.std.proofs.Common.{◌≡◌, ◌++◌, take}
use Rattle.jimple_tree.specs.Canonical.{modifiers_text}
use Rattle.jimple_tree.proofs.write.write_modifiers.Given as goal

abbrev pub invariant-loop-modifier : goal.invariant-loop-modifier
invariant-loop-modifier l = l.out.items ≡ l.fn.out.items ++ modifiers_text (take l.modifier-index l.modifiers)
