use Rattle.std.proofs.Common.{◌≡◌, List, [], ◌∷◌, ◌++◌, length, pred}
use Rattle.jimple_grammar.specs.declared.lexeme.Lexeme.{Lexeme}
use Rattle.jimple_words.specs.declared.kind.Kind.TheVariants as kinds
use Rattle.jimple_grammar.specs.Reading.{reading}
use Rattle.jimple_grammar.specs.Grammar.{ends}
use Rattle.jimple_grammar.specs.Forms.{next_slot, later_slots}
use Rattle.jimple_grammar.proofs.Groups.{Underway}
use Rattle.jimple_grammar.proofs.cursor.Cursor.later_slots.Given as goal

abbrev pub invariant-loop-self : goal.invariant-loop-self
invariant-loop-self l = record {
  pieces : List Lexeme;
  are : l.names.items ≡ l.fn.names.items ++ pieces;
  underway : Underway (λ xs end. xs) (((kinds.Comma ∷ []) ∷ []) ∷ []) next_slot (λ n x. pred n) ends (reading (later_slots l.fn.room) l.fn.self.left.now) pieces l.room l.self.left.now;
}

abbrev pub decreases-loop-self : goal.decreases-loop-self
decreases-loop-self l = length l.self.left.now
