use Rattle.std.proofs.Common.{[], ◌∷◌, length}
use Rattle.jimple_words.specs.declared.kind.Kind.TheVariants as kinds
use Rattle.jimple_grammar.specs.Reading.{reading}
use Rattle.jimple_grammar.specs.Grammar.{ends}
use Rattle.jimple_grammar.specs.Forms.{catch, catches}
use Rattle.jimple_grammar.proofs.Loops.{Onward}
use Rattle.jimple_grammar.proofs.cursor.Cursor.catches.Given as goal

abbrev pub invariant-loop-self : goal.invariant-loop-self
invariant-loop-self l = Onward (λ xs end. xs) (((kinds.Catch ∷ []) ∷ []) ∷ []) catch ends (reading catches l.fn.self.left.now) l.catches.items l.self.left.now

abbrev pub decreases-loop-self : goal.decreases-loop-self
decreases-loop-self l = length l.self.left.now
