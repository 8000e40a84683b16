-- The forms of words, numbers, strings, signs and comments (docs/FORMATS.md, "Tokens"). The kinds of bytes stand below, tokens above.
use Rattle.std.specs.Prelude.{◌≡◌, ℕ, Bool, true, List, [], ◌∷◌, ◌++◌, codes}
use Rattle.std.specs.List.{AllByRecursion}
use Rattle.jimple_lex.specs.Bytes.{line_feed, double_quote, hash, single_quote, minus, dot, backslash, is_quotable, is_literal, goes_on}
use Rattle.jimple_words.specs.Bytes.{is_digit, is_letter, begins_plain, is_plain}
use Rattle.jimple_words.specs.Kinds.{is_in, signs}

-- a segment of a word: plain, or in quotes
pub data IsSegment : List ℕ → Type 0 where
  plain : {text : List ℕ} (c : ℕ) (cs : List ℕ) → text ≡ c ∷ cs → begins_plain c ≡ true → AllByRecursion (λ x. is_plain x ≡ true) cs → IsSegment text
  quoted : {text : List ℕ} (name : List ℕ) → text ≡ single_quote ∷ (name ++ single_quote ∷ []) → AllByRecursion (λ x. is_quotable x ≡ true) name → IsSegment text

-- segments joined by dots
pub data IsJoined : List ℕ → Type 0 where
  last : {text : List ℕ} → IsSegment text → IsJoined text
  joined : {text : List ℕ} (segment more : List ℕ) → text ≡ segment ++ dot ∷ more → IsSegment segment → IsJoined more → IsJoined text

pub data IsWord : List ℕ → Type 0 where
  segments : {text : List ℕ} → IsJoined text → IsWord text
  initializer : {text : List ℕ} → text ≡ codes "<init>" → IsWord text
  class_initializer : {text : List ℕ} → text ≡ codes "<clinit>" → IsWord text

-- what stands behind a number's first digit, which is the byte before
abbrev pub GoesOn : ℕ → List ℕ → Type 0
GoesOn before [] = Unit {0}
GoesOn before (c ∷ cs) = (goes_on before c ≡ true) × GoesOn c cs

abbrev pub AreLetters : ℕ → List ℕ → Type 0
AreLetters c cs = (is_letter c ≡ true) × AllByRecursion (λ x. is_letter x ≡ true) cs

-- a number in digits, or one by name, as `#NaN` and `#-Infinity`
pub data IsNumber : List ℕ → Type 0 where
  unsigned : {text : List ℕ} (d : ℕ) (ds : List ℕ) → text ≡ d ∷ ds → is_digit d ≡ true → GoesOn d ds → IsNumber text
  negative : {text : List ℕ} (d : ℕ) (ds : List ℕ) → text ≡ minus ∷ d ∷ ds → is_digit d ≡ true → GoesOn d ds → IsNumber text
  named : {text : List ℕ} (c : ℕ) (cs : List ℕ) → text ≡ hash ∷ c ∷ cs → AreLetters c cs → IsNumber text
  named_negative : {text : List ℕ} (c : ℕ) (cs : List ℕ) → text ≡ hash ∷ minus ∷ c ∷ cs → AreLetters c cs → IsNumber text

-- the inside of a string: `\` takes the byte behind it along
pub data IsInside : List ℕ → Type 0 where
  empty : IsInside []
  literal : {c : ℕ} {cs : List ℕ} → is_literal c ≡ true → IsInside cs → IsInside (c ∷ cs)
  escaped : {c : ℕ} {cs : List ℕ} → (c ≡ line_feed → ⊥) → IsInside cs → IsInside (backslash ∷ c ∷ cs)

pub record IsString (text : List ℕ) : Type 0 where
  pub inside : List ℕ
  pub between_quotes : text ≡ double_quote ∷ (inside ++ double_quote ∷ [])
  pub unbroken : IsInside inside

unfoldable pub is_sign : List ℕ → Bool
is_sign text = is_in signs text

-- the end of a line, or of the text
abbrev pub AtLineEnd : List ℕ → Type 0
AtLineEnd [] = Unit {0}
AtLineEnd (c ∷ cs) = c ≡ line_feed

-- a comment, and what follows it: up to the end of the line, or up to the first `*/`
pub data IsComment : List ℕ → List ℕ → Type 0 where
  line : {text rest : List ℕ} (inside : List ℕ) → text ≡ codes "//" ++ inside → AllByRecursion (λ x. x ≡ line_feed → ⊥) inside → AtLineEnd rest → IsComment text rest
  block : {text rest : List ℕ} (inside : List ℕ) → text ≡ codes "/*" ++ (inside ++ codes "*/") → ((before after : List ℕ) → inside ≡ before ++ (codes "*/" ++ after) → ⊥) → IsComment text rest
