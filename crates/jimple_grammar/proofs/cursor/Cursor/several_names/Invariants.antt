use Rattle.std.proofs.Common.{◌≡◌, List, Ok, [], ◌∷◌, length}
use Rattle.jimple_grammar.specs.declared.lexeme.Lexeme.{Lexeme}
use Rattle.jimple_words.specs.declared.kind.Kind.TheVariants as kinds
use Rattle.jimple_grammar.specs.Reading.{reading}
use Rattle.jimple_grammar.specs.Grammar.{ends, ◌*>◌}
use Rattle.jimple_grammar.specs.Forms.{sign, name, others}
use Rattle.jimple_grammar.proofs.Loops.{Onward}
use Rattle.jimple_grammar.proofs.cursor.Cursor.several_names.Given as goal

abbrev pub invariant-loop-self : goal.invariant-loop-self
invariant-loop-self l = record {
  front : Lexeme;
  pieces : List Lexeme;
  are : l.names.items ≡ front ∷ pieces;
  first : reading name l.fn.self.left.now ≡ Ok (front, l.initial.self.left.now);
  onward : Onward (λ xs end. xs) (((kinds.Comma ∷ []) ∷ []) ∷ []) (sign kinds.Comma *> name) ends (reading (others name) l.initial.self.left.now) pieces l.self.left.now;
}

abbrev pub decreases-loop-self : goal.decreases-loop-self
decreases-loop-self l = length l.self.left.now
