-- A text in pieces: tokens, each with its kind, and blanks between them. Its tokens stand where the pieces put them.
use Rattle.std.specs.Prelude.{◌≡◌, ℕ, ◌+◌, true, List, [], ◌∷◌, ◌++◌, length}
use Rattle.std.specs.List.{AllByRecursion}
use Rattle.jimple_lex.specs.Bytes.{is_blank}
use Rattle.jimple_lex.specs.Tokens.{IsToken}
use Rattle.jimple_lex.specs.declared.token.Token.{Token}
use Rattle.jimple_lex.specs.declared.token.TokenKind.{TokenKind}

pub data Piece : Type 0 where
  blank : List ℕ → Piece
  token : TokenKind → List ℕ → Piece

-- the text of the pieces
abbrev pub flatten : List Piece → List ℕ
flatten [] = []
flatten (blank text ∷ more) = text ++ flatten more
flatten (token kind text ∷ more) = text ++ flatten more

-- their tokens, from this place on
abbrev pub tokens_at : ℕ → List Piece → List Token
tokens_at at [] = []
tokens_at at (blank text ∷ more) = tokens_at (at + length text) more
tokens_at at (token kind text ∷ more) = record { kind = kind; from = at; to = at + length text } ∷ tokens_at (at + length text) more

-- each piece is what it says, where the pieces behind it follow
pub data Fine : List Piece → Type 0 where
  nothing : Fine []
  apart : {text : List ℕ} {more : List Piece} → AllByRecursion (λ c. is_blank c ≡ true) text → Fine more → Fine (blank text ∷ more)
  stands : {kind : TokenKind} {text : List ℕ} {more : List Piece} → IsToken kind text (flatten more) → Fine more → Fine (token kind text ∷ more)
