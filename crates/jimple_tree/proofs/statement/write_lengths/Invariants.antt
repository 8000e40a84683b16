use Rattle.std.proofs.Common.{◌≡◌, ◌++◌, take}
use Rattle.std.specs.List.{flat_map}
use Rattle.jimple_tree.specs.Statements.{length_text}
use Rattle.jimple_tree.proofs.statement.write_lengths.Given as goal

abbrev pub invariant-loop-len : goal.invariant-loop-len
invariant-loop-len l = l.out.items ≡ l.fn.out.items ++ flat_map (length_text l.body) (take l.len-index l.lens)
