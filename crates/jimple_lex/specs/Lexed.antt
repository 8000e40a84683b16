-- The tokens of a text, by cases on its front.
use Rattle.std.specs.Prelude.{◌≡◌, ℕ, suc, ◌+◌, ◌≤◌, true, List, [], ◌∷◌, ◌++◌, length}
use Rattle.jimple_lex.specs.Bytes.{is_blank}
use Rattle.jimple_lex.specs.Forms.{IsComment}
use Rattle.jimple_lex.specs.Tokens.{IsToken}
use Rattle.jimple_lex.specs.declared.token.Token.{Token}
use Rattle.jimple_lex.specs.declared.token.TokenKind.{TokenKind}

-- from this place on the text that is left has these tokens
pub data Lexed : ℕ → List ℕ → List Token → Type 0 where
  ends : {at : ℕ} → Lexed at [] []
  blank : {at c : ℕ} {rest : List ℕ} {later : List Token} → is_blank c ≡ true → Lexed (suc at) rest later → Lexed at (c ∷ rest) later
  comment : {at to : ℕ} {whole : List ℕ} {later : List Token} (text rest : List ℕ) → whole ≡ text ++ rest → to ≡ at + length text → IsComment text rest → Lexed to rest later → Lexed at whole later
  token : {at to : ℕ} {whole : List ℕ} {later : List Token} (kind : TokenKind) (text rest : List ℕ) → whole ≡ text ++ rest → to ≡ at + length text → IsToken kind text rest
      → Lexed to rest later → Lexed at whole (record { kind = kind; from = at; to = to } ∷ later)

-- each token begins where the one before it has ended, or later
abbrev pub InOrder : ℕ → List Token → Type 0
InOrder end [] = Unit {0}
InOrder end (t ∷ ts) = (end ≤ t.from) × InOrder t.to ts
