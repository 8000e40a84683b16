-- What the pass over names asks for and sees. The public contracts cite `Given` alone.
use Rattle.std.specs.Prelude.{ℕ, ◌<◌, ◌^◌, List, length, map, Contains}
use Rattle.jimple_lex.specs.declared.token.Token.{Token}
use Rattle.jimple_tree.specs.declared.tree.Local.{Local}
use Rattle.jimple_grammar.specs.declared.lexeme.Lexeme.{Lexeme}
use Rattle.jimple_grammar.specs.Lexemes.{lexemes}
use Rattle.jimple_names.specs.declared.scope.Label.{Label}
use Rattle.jimple_names.specs.Scope.{Scope}

-- a tree that fits the tokens of the text, of which there are fewer than 2^32
abbrev pub Given : List ℕ → ((Lexeme → Type 0) → ℕ → Type 0) → Type 0
Given bytes Fits = (ts : List Token) × (length ts < 2 ^ 32) × Fits (Contains (lexemes bytes ts)) (length ts)

-- the names of a body with these locals, these labels and so many statements
abbrev pub seen : List Local → List Label → ℕ → Scope
seen locals labels count = record { locals = map (λ (l : Local). l.name) locals; labels = labels; count = count }
