use Rattle.std.proofs.Common.{length}
use Rattle.jimple_grammar.specs.Reading.{reading}
use Rattle.jimple_grammar.specs.Forms.{headed, before_modifier, modifier, member_type, head}
use Rattle.jimple_grammar.proofs.Loops.{Onward}
use Rattle.jimple_grammar.proofs.cursor.Cursor.head.Given as goal

abbrev pub invariant-loop-self : goal.invariant-loop-self
invariant-loop-self l = Onward (headed) (before_modifier) modifier member_type (reading head l.fn.self.left.now) l.modifiers.items l.self.left.now

abbrev pub decreases-loop-self : goal.decreases-loop-self
decreases-loop-self l = length l.self.left.now
