use Rattle.std.proofs.Common.{length}
use Rattle.jimple_words.specs.declared.kind.Kind.TheVariants as kinds
use Rattle.jimple_grammar.specs.Grammar.{plain}
use Rattle.jimple_grammar.specs.Reading.{reading}
use Rattle.jimple_grammar.specs.Forms.{sign, before_member, member}
use Rattle.jimple_grammar.proofs.Loops.{Onward}
use Rattle.jimple_grammar.proofs.cursor.Cursor.later_members.Given as goal

abbrev pub invariant-loop-alloc : goal.invariant-loop-alloc
invariant-loop-alloc l = Onward (λ xs end. xs) (before_member) member (sign kinds.CloseBrace) (reading (plain (λ xs end. xs) before_member member (sign kinds.CloseBrace)) l.fn.self.left.now) l.members.items l.self.left.now

abbrev pub decreases-loop-alloc : goal.decreases-loop-alloc
decreases-loop-alloc l = length l.self.left.now
