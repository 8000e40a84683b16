use Rattle.std.proofs.Common.{◌≡◌, List, [], ◌∷◌, length, ◌+◌, ◌≤◌}
use Rattle.jimple_grammar.specs.declared.lexeme.Lexeme.{Lexeme}
use Rattle.jimple_words.specs.declared.kind.Kind.TheVariants as kinds
use Rattle.jimple_grammar.specs.Reading.{reading}
use Rattle.jimple_grammar.specs.Grammar.{ends}
use Rattle.jimple_grammar.specs.Forms.{bracket_pair, brackets}
use Rattle.jimple_grammar.proofs.Loops.{Onward}
use Rattle.jimple_grammar.proofs.cursor.Cursor.brackets.Given as goal

abbrev pub invariant-loop-self : goal.invariant-loop-self
invariant-loop-self l = record {
  pieces : List Lexeme;
  count : l.dims ≡ length pieces;
  bound : l.dims + length l.self.left.now ≤ length l.fn.self.left.now;
  onward : Onward (λ pairs end. length pairs) (((kinds.OpenBracket ∷ []) ∷ []) ∷ []) bracket_pair ends (reading brackets l.fn.self.left.now) pieces l.self.left.now;
}

abbrev pub decreases-loop-self : goal.decreases-loop-self
decreases-loop-self l = length l.self.left.now
