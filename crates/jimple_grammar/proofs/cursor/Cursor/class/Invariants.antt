use Rattle.std.proofs.Common.{length}
use Rattle.jimple_grammar.specs.Grammar.{both}
use Rattle.jimple_grammar.specs.Reading.{reading}
use Rattle.jimple_grammar.specs.Forms.{classed, before_class_modifier, modifier, heading_members, heading, members, class}
use Rattle.jimple_grammar.proofs.Loops.{Onward}
use Rattle.jimple_grammar.proofs.cursor.Cursor.class.Given as goal

abbrev pub invariant-loop-self : goal.invariant-loop-self
invariant-loop-self l = Onward (classed) (before_class_modifier) modifier (both heading_members heading members) (reading class l.fn.self.left.now) l.modifiers.items l.self.left.now

abbrev pub decreases-loop-self : goal.decreases-loop-self
decreases-loop-self l = length l.self.left.now
