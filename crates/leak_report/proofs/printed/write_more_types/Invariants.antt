use Rattle.std.proofs.Common.{◌≡◌, ◌++◌, codes, flat_map, take}
use Rattle.jimple_tree.specs.Printed.{type_text}
use Rattle.leak_report.proofs.printed.write_more_types.Given as goal

abbrev pub invariant-loop-ty : goal.invariant-loop-ty
invariant-loop-ty l = l.out.items ≡ l.fn.out.items ++ flat_map (λ u. codes "," ++ type_text u) (take l.ty-index l.types)
