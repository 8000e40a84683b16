-- The number in the word of a parameter is at most 254.
use Rattle.std.proofs.Common.{◌≡◌, ℕ, zero, suc, ◌-◌, ◌<◌, ◌≤◌, nat_le, Bool, true, false, not, ◌==◌, List, [], ◌∷◌, length, drop, map, Some, refl, sym, ◌∙◌, subst, arith, rules}
use Rattle.std.specs.Prelude.{Contains}
use Rattle.std.specs.List.{list_all}
use Rattle.std.specs.Str.{bytes_eq}
use Rattle.std.proofs.Math.ListN.{get_or}
use Rattle.jimple_lex.specs.declared.token.Token.{Token}
use Rattle.jimple_lex.specs.declared.token.TokenKind.{TokenKind}
use Rattle.jimple_lex.specs.declared.token.TokenKind.TheVariants as tokens
use Rattle.jimple_words.specs.declared.kind.Kind.{Kind}
use Rattle.jimple_grammar.specs.declared.lexeme.Lexeme.{Lexeme}
use Rattle.jimple_grammar.specs.declared.raw.RawGiven.TheVariants as raw_given
use Rattle.jimple_grammar.specs.declared.raw.RawType.{RawType}
use Rattle.jimple_words.specs.Kind.{number}
use Rattle.jimple_words.specs.Kinds.{Texts, kind_in, keywords, signs, further, read_digits, names_parameter, parameter_number}
use Rattle.jimple_grammar.specs.Lexemes.{kind_of}
use Rattle.jimple_grammar.specs.Lexemes.{lexeme, lexemes}
use Rattle.jimple_grammar.specs.Fits.{GivenFits}
use Rattle.jimple_names.specs.Texts.{text}
use Rattle.jimple_names.specs.Tree.{parameter_of}
use Rattle.jimple_names.specs.Resolving.{Given}
use Rattle.std.proofs.lemmas.Bool.{and_parts}

-- what is at most 254 is the number
pub low_number : (digits : List ℕ) → read_digits 0 digits ≤ 254 → parameter_number digits ≡ Some (read_digits 0 digits)
low_number digits low = let few : nat_le (read_digits 0 digits) 254 ≡ true = search (rules, arith, low) in rw few refl

-- no parameter among these texts
abbrev no_parameter : Texts → Bool
no_parameter ts = list_all (λ (e : List ℕ × Kind). not (number e.1 == 4)) ts

another : (ts : Texts) (word : List ℕ) → no_parameter ts ≡ true → (number (kind_in ts word) == 4) ≡ false
another [] word h = refl
another (e ∷ es) word h = of (bytes_eq word e.0) (number e.1 == 4) refl refl (another es word) where
  of : (b k : Bool) → bytes_eq word e.0 ≡ b → (number e.1 == 4) ≡ k → (no_parameter es ≡ true → (number (kind_in es word) == 4) ≡ false) → (number (kind_in (e ∷ es) word) == 4) ≡ false
  of b true q r rec = let bad : false ≡ true = sym (rw r refl) ∙ h in absurd cc
  of true false q r rec = rw q r
  of false false q r rec = let p = and_parts (not (number e.1 == 4)) (no_parameter es) h in rw q (rec p.1)

few_digits : (word : List ℕ) → (number (kind_of tokens.Word word) == 4) ≡ true → read_digits 0 (drop 9 word) ≤ 254
unfolding further
few_digits word h = of (names_parameter word) (nat_le (read_digits 0 (drop 9 word)) 254) refl refl where
  of : (b l : Bool) → names_parameter word ≡ b → nat_le (read_digits 0 (drop 9 word)) 254 ≡ l → read_digits 0 (drop 9 word) ≤ 254
  of true true q l = search (rules, arith, l)
  of true false q l = let bad : false ≡ true = sym (rw (q, l) refl) ∙ h in absurd cc
  of false l q r = let bad : false ≡ true = sym (another further word refl) ∙ (sym (rw q refl) ∙ h) in absurd cc

few_of_kind : (k : TokenKind) (word : List ℕ) → (number (kind_of k word) == 4) ≡ true → read_digits 0 (drop 9 word) ≤ 254
unfolding keywords signs
few_of_kind tokens.Word word h = few_digits word h
few_of_kind tokens.Keyword word h = let bad : false ≡ true = sym (another keywords word refl) ∙ h in absurd cc
few_of_kind tokens.Number word h = absurd cc
few_of_kind tokens.Text word h = absurd cc
few_of_kind tokens.Sign word h = let bad : false ≡ true = sym (another signs word refl) ∙ h in absurd cc

image : {A B : Type 0} (f : A → B) (xs : List A) (k : ℕ) (y : B) → k < length (map f xs) → get_or (map f xs) k y ≡ y → (x : A) × (f x ≡ y)
image f [] k y less e = absurd (omega (arith, less))
image f (x ∷ xs) zero y less e = (x, e)
image f (x ∷ xs) (suc k) y less e = image f xs k y (omega (arith, less)) e

-- a token of the text has the kind of its text
pub of_text : (bytes : List ℕ) (ts : List Token) (word : Lexeme) → Contains (lexemes bytes ts) word → (t : Token) × (lexeme bytes t ≡ word)
of_text bytes ts word c = image (lexeme bytes) ts c.0 word c.1 c.2

pub few : (bytes : List ℕ) (word : Lexeme) (ty : RawType) → Given bytes (λ P n. GivenFits P n (raw_given.Param word ty)) → parameter_of bytes word ≤ 254
few bytes word ty g =
    let t = of_text bytes g.0 word g.2.0.0 in
    let is : (number (lexeme bytes t.0).kind == 4) ≡ true = subst (λ (l : Lexeme). (number l.kind == 4) ≡ true) (sym t.1) (search (rules, g.2.0.1)) in
    subst (λ (l : Lexeme). parameter_of bytes l ≤ 254) t.1 (few_of_kind t.0.kind (text bytes (lexeme bytes t.0)) is)
