use Rattle.std.proofs.Common.{◌≡◌, ◌++◌, take}
use Rattle.std.specs.List.{flat_map}
use Rattle.jimple_tree.specs.Canonical.{method_text}
use Rattle.jimple_tree.proofs.write.write_methods.Given as goal

abbrev pub invariant-loop-method : goal.invariant-loop-method
invariant-loop-method l = l.out.items ≡ l.fn.out.items ++ flat_map method_text (take l.method-index l.methods)
