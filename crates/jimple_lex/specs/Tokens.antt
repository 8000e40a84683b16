-- What a token of each kind is, and where it ends (docs/FORMATS.md, "Tokens"). The forms stand below, the lists of tokens above.
use Rattle.std.specs.Prelude.{◌≡◌, ℕ, Bool, true, false, ◌||◌, List, [], ◌++◌, codes}
use Rattle.jimple_lex.specs.Bytes.{begins_with}
use Rattle.jimple_lex.specs.Forms.{IsWord, IsNumber, IsString, is_sign}
use Rattle.jimple_words.specs.Kinds.{is_keyword}
use Rattle.jimple_lex.specs.declared.token.TokenKind.{TokenKind}
use Rattle.jimple_lex.specs.declared.token.TokenKind.TheVariants.{Word, Keyword, Number, Text, Sign}

-- the text is of this form, and it can't go on with what follows
pub record Longest (Form : List ℕ → Type 0) (text rest : List ℕ) : Type 0 where
  pub is : Form text
  pub ends : (more left : List ℕ) → rest ≡ more ++ left → Form (text ++ more) → more ≡ []

-- a front of the text is of this form
pub record Begins (Form : List ℕ → Type 0) (whole : List ℕ) : Type 0 where
  pub text : List ℕ
  pub rest : List ℕ
  pub parts : whole ≡ text ++ rest
  pub is : Form text

abbrev pub begins_comment : List ℕ → Bool
begins_comment whole = begins_with (codes "//") whole || begins_with (codes "/*") whole

-- a sign stands where no word, no number and no comment begins
pub record IsSign (text rest : List ℕ) : Type 0 where
  pub longest : Longest (λ t. is_sign t ≡ true) text rest
  pub no_word : Begins IsWord (text ++ rest) → ⊥
  pub no_number : Begins IsNumber (text ++ rest) → ⊥
  pub no_comment : begins_comment (text ++ rest) ≡ false

-- the text is a token of the kind, where the rest follows it
abbrev pub IsToken : TokenKind → List ℕ → List ℕ → Type 0
IsToken Word text rest = Longest IsWord text rest × (is_keyword text ≡ false)
IsToken Keyword text rest = Longest IsWord text rest × (is_keyword text ≡ true)
IsToken Number text rest = Longest IsNumber text rest
IsToken Text text rest = IsString text
IsToken Sign text rest = IsSign text rest
