use Rattle.std.proofs.Common.{◌≡◌, ◌++◌, take, codes}
use Rattle.std.specs.List.{flat_map}
use Rattle.jimple_tree.specs.Names.{name_text}
use Rattle.jimple_tree.proofs.write.write_more_names.Given as goal

abbrev pub invariant-loop-name : goal.invariant-loop-name
invariant-loop-name l = l.out.items ≡ l.fn.out.items ++ flat_map (λ n. codes ", " ++ name_text n) (take l.name-index l.names)
