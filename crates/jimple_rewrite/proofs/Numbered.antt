-- Labels and parameters, which have a number in their names, are words.
use Rattle.std.proofs.Common.{◌≡◌, ℕ, zero, suc, ◌<◌, ◌/◌, ◌%◌, Bool, true, false, cond, List, [], ◌∷◌, ◌++◌, decimal, not, ap, refl, arith, codes}
use Rattle.std.specs.Prelude.{◌==◌}
use Rattle.std.specs.Fmt.{digits, digits_onto, digit_glyph}
use Rattle.std.specs.List.{list_all}
use Rattle.std.proofs.Math.Nat.{mod-lt}
use Rattle.std.proofs.lemmas.Bool.{and_from, and_parts}
use Rattle.jimple_words.specs.Bytes.{is_plain}
use Rattle.jimple_words.specs.Kinds.{is_keyword, keywords}
use Rattle.jimple_lex.specs.Tokens.{IsToken}
use Rattle.jimple_lex.specs.declared.token.TokenKind.TheVariants as kinds
use Rattle.jimple_tree.specs.Labels.{label_text}
use Rattle.jimple_rewrite.proofs.IsName.{unquoted}
use Rattle.jimple_rewrite.proofs.After.{after_word}
use Rattle.jimple_rewrite.proofs.PlainWords.{a_word}

digit_plain : (d : ℕ) → d < 10 → is_plain (digit_glyph false d) ≡ true
digit_plain d h = grind arith

digits_plain : (k n : ℕ) (later : List ℕ) → list_all is_plain later ≡ true → list_all is_plain (digits_onto k 10 false n later) ≡ true
digits_plain zero n later e = e
digits_plain (suc k) n later e = by_case (n / 10 == 0) (digits_plain k (n / 10) (digit_glyph false (n % 10) ∷ later) more) where
  more : list_all is_plain (digit_glyph false (n % 10) ∷ later) ≡ true
  more = and_from _ _ (digit_plain (n % 10) (mod-lt n (omega arith))) e

  by_case : (b : Bool) → list_all is_plain (digits_onto k 10 false (n / 10) (digit_glyph false (n % 10) ∷ later)) ≡ true
      → list_all is_plain (cond b (digit_glyph false (n % 10) ∷ later) (digits_onto k 10 false (n / 10) (digit_glyph false (n % 10) ∷ later))) ≡ true
  by_case true h = more
  by_case false h = h

pub decimal_plain : (n : ℕ) → list_all is_plain (decimal n) ≡ true
unfolding digits
decimal_plain n = digits_plain 64 n [] refl

no_quote : (c : ℕ) → is_plain c ≡ true → not (c == 39) ≡ true
no_quote c e = grind arith

plain_unquoted : (text : List ℕ) → list_all is_plain text ≡ true → unquoted text ≡ text
plain_unquoted [] e = refl
plain_unquoted (c ∷ cs) e =
    let p = and_parts (is_plain c) (list_all is_plain cs) e in
    let stays = no_quote c p.0 in
    rw stays (ap (λ (t : List ℕ). c ∷ t) (plain_unquoted cs p.1))

pub label_named : (n : ℕ) → unquoted (label_text n) ≡ label_text n
unfolding label_text
label_named n = plain_unquoted (codes "label" ++ decimal n) (decimal_plain n)

pub label_token : (number : ℕ) (rest : List ℕ) → after_word rest ≡ true → IsToken kinds.Word (label_text number) rest
unfolding label_text is_keyword keywords
label_token number rest a = a_word (codes "label" ++ decimal number) rest (decimal_plain number) refl a

pub parameter_token : (number : ℕ) (rest : List ℕ) → after_word rest ≡ true → IsToken kinds.Word (codes "parameter" ++ decimal number) rest
unfolding is_keyword keywords
parameter_token number rest a = a_word (codes "parameter" ++ decimal number) rest (decimal_plain number) refl a
