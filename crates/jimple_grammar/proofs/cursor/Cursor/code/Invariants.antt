use Rattle.std.proofs.Common.{length}
use Rattle.jimple_grammar.specs.Grammar.{both}
use Rattle.jimple_grammar.specs.Reading.{reading}
use Rattle.jimple_grammar.specs.Forms.{label, stmt, front_items, later_items, code, coded, before_label}
use Rattle.jimple_grammar.proofs.Loops.{Onward}
use Rattle.jimple_grammar.proofs.cursor.Cursor.code.Given as goal

abbrev pub invariant-loop-self : goal.invariant-loop-self
invariant-loop-self l = Onward (coded) (before_label) label (both front_items stmt later_items) (reading code l.fn.self.left.now) l.labels.items l.self.left.now

abbrev pub decreases-loop-self : goal.decreases-loop-self
decreases-loop-self l = length l.self.left.now
