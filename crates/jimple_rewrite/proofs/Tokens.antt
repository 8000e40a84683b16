-- Signs, keywords and names are read again.
-- Types and operands stand above.
use Rattle.std.proofs.Common.{◌≡◌, ℕ, true, false, ◌&&◌, List, [], ◌∷◌, ◌++◌, ap, refl, ◌∙◌, codes}
use Rattle.jimple_lex.specs.Forms.{is_sign}
use Rattle.jimple_lex.specs.Front.{front}
use Rattle.jimple_lex.specs.Tokens.{IsToken}
use Rattle.jimple_lex.specs.declared.front.Front.TheVariants as fronts
use Rattle.jimple_lex.specs.declared.token.TokenKind.TheVariants as tokens
use Rattle.jimple_tree.specs.Names.{name_text, quoted_name}
use Rattle.jimple_words.specs.declared.kind.Kind.{Kind}
use Rattle.jimple_words.specs.declared.kind.Kind.TheVariants as kinds
use Rattle.jimple_words.specs.Kind.{has}
use Rattle.jimple_words.specs.Kinds.{is_keyword, signs}
use Rattle.jimple_grammar.specs.Lexemes.{kind_of}
use Rattle.jimple_grammar.specs.Forms.{sign, name, any_name}
use Rattle.jimple_names.specs.Texts.{name_of}
use Rattle.jimple_rewrite.proofs.IsName.{IsName, unquoted}
use Rattle.jimple_rewrite.proofs.PlainWords as words
use Rattle.jimple_rewrite.proofs.PlainWords.{is_plain_word}
use Rattle.jimple_rewrite.proofs.Follows.{Stop, WordStop, sign_stop}
use Rattle.jimple_rewrite.proofs.KindsOf.{in_names, in_any_names}
use Rattle.jimple_rewrite.proofs.Names.{name_word, quoted_word}
use Rattle.jimple_rewrite.proofs.Reread.{IsReread, IsOf, Anything, one, right, behind}
use Rattle.jimple_rewrite.proofs.Signs.{opens_longer, goes_longer, sign_token}

module _ {bytes : List ℕ} where
  -- a sign by its own bytes
  pub a_sign : (k : Kind) (text : List ℕ) {P : List ℕ → Type 0} → has (k ∷ []) (kind_of tokens.Sign text) ≡ true → is_sign text ≡ true → ((rest : List ℕ) → P rest → (opens_longer text && goes_longer rest) ≡ false) → ((rest : List ℕ) → front (text ++ rest) ≡ fronts.Sign)
      → IsReread bytes (sign k) P text (IsOf bytes tokens.Sign text)
  a_sign k text h s n f = one tokens.Sign text h (λ rest p. sign_token text rest s (n rest p) (f rest))

  pub open_paren : IsReread bytes (sign kinds.OpenParen) Anything (codes "(") (IsOf bytes tokens.Sign (codes "("))
  unfolding is_sign signs
  open_paren = a_sign kinds.OpenParen (codes "(") refl refl (λ rest p. refl) (λ rest. refl)

  pub close_paren : IsReread bytes (sign kinds.CloseParen) Anything (codes ")") (IsOf bytes tokens.Sign (codes ")"))
  unfolding is_sign signs
  close_paren = a_sign kinds.CloseParen (codes ")") refl refl (λ rest p. refl) (λ rest. refl)

  pub open_brace : IsReread bytes (sign kinds.OpenBrace) Anything (codes "{") (IsOf bytes tokens.Sign (codes "{"))
  unfolding is_sign signs
  open_brace = a_sign kinds.OpenBrace (codes "{") refl refl (λ rest p. refl) (λ rest. refl)

  pub close_brace : IsReread bytes (sign kinds.CloseBrace) Anything (codes "}") (IsOf bytes tokens.Sign (codes "}"))
  unfolding is_sign signs
  close_brace = a_sign kinds.CloseBrace (codes "}") refl refl (λ rest p. refl) (λ rest. refl)

  pub open_bracket : IsReread bytes (sign kinds.OpenBracket) Anything (codes "[") (IsOf bytes tokens.Sign (codes "["))
  unfolding is_sign signs
  open_bracket = a_sign kinds.OpenBracket (codes "[") refl refl (λ rest p. refl) (λ rest. refl)

  pub close_bracket : IsReread bytes (sign kinds.CloseBracket) Anything (codes "]") (IsOf bytes tokens.Sign (codes "]"))
  unfolding is_sign signs
  close_bracket = a_sign kinds.CloseBracket (codes "]") refl refl (λ rest p. refl) (λ rest. refl)

  pub comma : IsReread bytes (sign kinds.Comma) Anything (codes ",") (IsOf bytes tokens.Sign (codes ","))
  unfolding is_sign signs
  comma = a_sign kinds.Comma (codes ",") refl refl (λ rest p. refl) (λ rest. refl)

  pub comma_space : IsReread bytes (sign kinds.Comma) Anything (codes ", ") (IsOf bytes tokens.Sign (codes ","))
  comma_space = behind (codes " ") comma refl (λ rest. tt)

  pub semicolon : IsReread bytes (sign kinds.Semicolon) Anything (codes ";") (IsOf bytes tokens.Sign (codes ";"))
  unfolding is_sign signs
  semicolon = a_sign kinds.Semicolon (codes ";") refl refl (λ rest p. refl) (λ rest. refl)

  pub at_sign : IsReread bytes (sign kinds.At) Anything (codes "@") (IsOf bytes tokens.Sign (codes "@"))
  unfolding is_sign signs
  at_sign = a_sign kinds.At (codes "@") refl refl (λ rest p. refl) (λ rest. refl)

  -- a dot of which no word makes a part of itself
  pub dot : IsReread bytes (sign kinds.Dot) (λ rest. WordStop (46 ∷ rest)) (codes ".") (IsOf bytes tokens.Sign (codes "."))
  unfolding is_sign signs
  dot = a_sign kinds.Dot (codes ".") refl refl (λ rest p. refl) (λ rest. refl)

  pub colon : IsReread bytes (sign kinds.Colon) (λ rest. goes_longer rest ≡ false) (codes ":") (IsOf bytes tokens.Sign (codes ":"))
  unfolding is_sign signs
  colon = a_sign kinds.Colon (codes ":") refl refl (λ rest p. p) (λ rest. refl)

  pub colon_space : IsReread bytes (sign kinds.Colon) Anything (codes ": ") (IsOf bytes tokens.Sign (codes ":"))
  colon_space = behind (codes " ") colon refl (λ rest. refl)

  pub less : IsReread bytes (sign kinds.Less) (λ rest. IsToken tokens.Sign (codes "<") rest) (codes "<") (IsOf bytes tokens.Sign (codes "<"))
  unfolding is_sign signs
  less = one tokens.Sign (codes "<") refl (λ rest p. p)

  pub greater : IsReread bytes (sign kinds.Greater) Stop (codes ">") (IsOf bytes tokens.Sign (codes ">"))
  unfolding is_sign signs
  greater = a_sign kinds.Greater (codes ">") refl refl sign_stop (λ rest. refl)

  pub a_keyword : (k : Kind) (word : List ℕ) → is_plain_word word ≡ true → is_keyword word ≡ true → has (k ∷ []) (kind_of tokens.Keyword word) ≡ true → IsReread bytes (sign k) WordStop word (IsOf bytes tokens.Keyword word)
  a_keyword k word p q h = one tokens.Keyword word h (λ rest a. words.a_keyword word rest p q a)

  -- with a blank behind it
  pub keyword_space : (k : Kind) (word : List ℕ) → is_plain_word word ≡ true → is_keyword word ≡ true → has (k ∷ []) (kind_of tokens.Keyword word) ≡ true → IsReread bytes (sign k) Anything (word ++ codes " ") (IsOf bytes tokens.Keyword word)
  keyword_space k word p q h = behind (codes " ") (a_keyword k word p q h) refl (λ rest. refl)

  -- Names

  pub a_name : (n : List ℕ) → IsName n → IsReread bytes name WordStop (name_text n) (λ t. name_of bytes t ≡ n)
  a_name n i = let w = name_word n i in right (one tokens.Word (name_text n) (in_names (name_text n)) w.token) (λ t o. ap unquoted o.text ∙ w.named)

  pub any_word : (n : List ℕ) → IsName n → IsReread bytes any_name WordStop (name_text n) (λ t. name_of bytes t ≡ n)
  any_word n i = let w = name_word n i in right (one tokens.Word (name_text n) (in_any_names (name_text n)) w.token) (λ t o. ap unquoted o.text ∙ w.named)

  pub quoted : (n : List ℕ) → IsName n → IsReread bytes name WordStop (quoted_name n) (λ t. name_of bytes t ≡ n)
  quoted n i = let w = quoted_word n i in right (one tokens.Word (quoted_name n) (in_names (quoted_name n)) w.token) (λ t o. ap unquoted o.text ∙ w.named)
