use Rattle.std.proofs.lemmas.List.{append_assoc}
use Rattle.jimple_tree.proofs.statement.write_stmt.Goals as goal

pub returns-in-Exit : goal.returns-in-Exit
returns-in-Exit c = rw c.in-Exit.is (simp append_assoc (simp append_assoc at c.write_word_stmt-in-Exit.ensures))
