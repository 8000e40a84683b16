use Rattle.std.proofs.Common.{length}
use Rattle.jimple_grammar.specs.Grammar.{ends}
use Rattle.jimple_grammar.specs.Reading.{reading}
use Rattle.jimple_grammar.specs.Forms.{before_class, class, file}
use Rattle.jimple_grammar.proofs.Loops.{Onward}
use Rattle.jimple_grammar.proofs.cursor.Cursor.file.Given as goal

abbrev pub invariant-loop-alloc : goal.invariant-loop-alloc
invariant-loop-alloc l = Onward (λ xs end. xs) (before_class) class ends (reading file l.fn.self.left.now) l.classes.items l.self.left.now

abbrev pub decreases-loop-alloc : goal.decreases-loop-alloc
decreases-loop-alloc l = length l.self.left.now
