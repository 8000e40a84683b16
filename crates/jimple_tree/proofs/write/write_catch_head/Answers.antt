use Rattle.std.proofs.lemmas.List.{append_assoc}
use Rattle.jimple_tree.specs.Statements.{catch_head}
use Rattle.jimple_tree.proofs.write.write_catch_head.Goals as goal

pub returns : goal.returns
unfolding catch_head
returns c = simp append_assoc at (rw c.in_ok-extend_from_slice.ensures.items at c.write_name.ensures)
