-- The first fault of a text, by cases on its front.
use Rattle.std.specs.Prelude.{◌≡◌, ℕ, suc, ◌+◌, Bool, true, false, ◌||◌, List, [], ◌∷◌, ◌++◌, length, codes}
use Rattle.jimple_lex.specs.Bytes.{is_blank, single_quote, double_quote, begins_with}
use Rattle.jimple_lex.specs.Forms.{IsComment}
use Rattle.jimple_lex.specs.Tokens.{IsToken}
use Rattle.jimple_lex.specs.Lexed.{Lexed}
use Rattle.jimple_lex.specs.declared.token.Token.{Token}
use Rattle.jimple_lex.specs.declared.token.TokenKind.{TokenKind}
use Rattle.clean_base.specs.declared.fault.Stop.{Stop}
use Rattle.clean_base.specs.declared.fault.Stop.TheVariants.{Fault, OutOfMemory}
use Rattle.clean_base.specs.declared.fault.InputFault.{InputFault}
use Rattle.clean_base.specs.declared.fault.InputFault.TheVariants.{BadByte, OpenText}

pub data FaultKind : Type 0 where
  bad_byte : FaultKind
  open_text : FaultKind

-- a string, a quoted segment or a comment begins there
abbrev pub opens : List ℕ → Bool
opens whole = begins_with (double_quote ∷ []) whole || begins_with (single_quote ∷ []) whole || begins_with (codes "/*") whole

-- neither a blank nor a comment nor a token stands at the front of the text, which goes on
pub record Stuck (whole : List ℕ) : Type 0 where
  pub goes_on : whole ≡ [] → ⊥
  pub no_blank : (c : ℕ) (rest : List ℕ) → whole ≡ c ∷ rest → is_blank c ≡ false
  pub no_comment : (text rest : List ℕ) → whole ≡ text ++ rest → IsComment text rest → ⊥
  pub no_token : (kind : TokenKind) (text rest : List ℕ) → whole ≡ text ++ rest → IsToken kind text rest → ⊥

-- from this place on, the text that is left has its first fault there
pub data FirstFault : ℕ → List ℕ → FaultKind → ℕ → Type 0 where
  bad : {at : ℕ} {whole : List ℕ} → Stuck whole → opens whole ≡ false → FirstFault at whole bad_byte at
  unended : {at : ℕ} {whole : List ℕ} → Stuck whole → opens whole ≡ true → FirstFault at whole open_text at
  past_blank : {at c place : ℕ} {rest : List ℕ} {kind : FaultKind} → is_blank c ≡ true → FirstFault (suc at) rest kind place → FirstFault at (c ∷ rest) kind place
  past_comment : {at to place : ℕ} {whole : List ℕ} {kind : FaultKind} (text rest : List ℕ) → whole ≡ text ++ rest → to ≡ at + length text → IsComment text rest → FirstFault to rest kind place → FirstFault at whole kind place
  past_token : {at to place : ℕ} {whole : List ℕ} {kind : FaultKind} (found : TokenKind) (text rest : List ℕ) → whole ≡ text ++ rest → to ≡ at + length text → IsToken found text rest
      → FirstFault to rest kind place → FirstFault at whole kind place

-- the first fault of this text of this file; it has no other, and no list of tokens
pub record IsFault (file : ℕ) (bytes : List ℕ) (kind : FaultKind) (named at : ℕ) : Type 0 where
  pub in_file : named ≡ file
  pub first : FirstFault 0 bytes kind at
  pub no_other : (other : FaultKind) (place : ℕ) → FirstFault 0 bytes other place → (other ≡ kind) × (place ≡ at)
  pub no_tokens : (us : List Token) → Lexed 0 bytes us → ⊥

-- the first fault of the text, as a fault of input
pub data IsLexical (file : ℕ) (bytes : List ℕ) : InputFault → Type 0 where
  at_byte : {named at : ℕ} → IsFault file bytes bad_byte named at → IsLexical file bytes (BadByte named at)
  at_open : {named at : ℕ} → IsFault file bytes open_text named at → IsLexical file bytes (OpenText named at)

-- why there are no tokens: want of memory, or the first fault of the text
abbrev pub Refused : ℕ → List ℕ → Stop → Type 0
Refused file bytes (Fault fault) = IsLexical file bytes fault
Refused file bytes OutOfMemory = Unit {0}
