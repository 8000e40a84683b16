-- What tokens of some kinds mean: a call's word, and the number of a parameter.
use Rattle.std.proofs.Common.{◌≡◌, ℕ, zero, suc, ◌<◌, ◌≤◌, arith, nat_le, Bool, true, false, not, ◌&&◌, List, [], ◌∷◌, length, drop, Contains, Some, None, refl, sym, ◌∙◌, subst, true≢false, if◌then◌else◌}
use Rattle.std.specs.Str.{bytes_eq}
use Rattle.std.proofs.Math.ListN.{get_or}
use Rattle.std.proofs.lemmas.Bool.{leb-true, and_parts}
use Rattle.clean_base.specs.declared.ids.LocalId.{LocalId}
use Rattle.jimple_tree.specs.declared.tree.Body.{Body}
use Rattle.jimple_tree.specs.WellFormed.{LocalFits, BaseFits}
use Rattle.jimple_lex.specs.declared.token.Token.{Token}
use Rattle.jimple_lex.specs.declared.token.TokenKind.{TokenKind}
use Rattle.jimple_lex.specs.declared.token.TokenKind.TheVariants as tokens
use Rattle.jimple_words.specs.declared.kind.Kind.{Kind}
use Rattle.jimple_words.specs.declared.kind.Kind.TheVariants as kinds
use Rattle.jimple_grammar.specs.declared.lexeme.Lexeme.{Lexeme}
use Rattle.jimple_words.specs.Kind.{has}
use Rattle.jimple_words.specs.Kinds.{Texts, kind_in, word_kind, parameter_kind, names_parameter, read_digits, keywords, signs, further}
use Rattle.jimple_grammar.specs.Lexemes.{kind_of}
use Rattle.jimple_grammar.specs.Lexemes.{lexeme, lexemes}
use Rattle.jimple_words.specs.Sets.{based_calls}
use Rattle.jimple_names.specs.Texts.{text}
use Rattle.jimple_names.specs.Tree.{call_of, parameter_of}

-- Calls

pub static_base : (b : Body) (k : Kind) → has (kinds.Staticinvoke ∷ []) k ≡ true → BaseFits b (call_of k) None
static_base b kinds.Staticinvoke h = tt
static_base b _ h = absurd (true≢false (sym h))

pub local_base : (b : Body) (k : Kind) (x : LocalId) → has based_calls k ≡ true → LocalFits b x → BaseFits b (call_of k) (Some x)
local_base b kinds.Staticinvoke x h fits = absurd (true≢false (sym h))
local_base b kinds.Virtualinvoke x h fits = fits
local_base b kinds.Interfaceinvoke x h fits = fits
local_base b _ x h fits = fits

-- Parameters

abbrev is_parameter : Kind → Bool
is_parameter k = has (kinds.Parameter ∷ []) k

-- no text of the list is that of a parameter
abbrev without : Texts → Bool
without [] = true
without (entry ∷ entries) = not (is_parameter entry.1) && without entries

none_listed : (entries : Texts) (word : List ℕ) → without entries ≡ true → is_parameter (kind_in entries word) ≡ true → ⊥
none_listed [] word h e = true≢false (sym e)
none_listed (entry ∷ entries) word h e =
    let parts = and_parts (not (is_parameter entry.1)) (without entries) h in
    of (bytes_eq word entry.0) (is_parameter entry.1) refl parts.0 e (none_listed entries word parts.1)
  where
    of : (b c : Bool) → is_parameter entry.1 ≡ c → not c ≡ true → is_parameter (if b then entry.1 else kind_in entries word) ≡ true → (is_parameter (kind_in entries word) ≡ true → ⊥) → ⊥
    of true true s n p rest = true≢false (sym n)
    of true false s n p rest = true≢false (sym p ∙ s)
    of false c s n p rest = rest p

no_keyword : (word : List ℕ) → is_parameter (kind_in keywords word) ≡ true → ⊥
unfolding keywords
no_keyword word e = none_listed keywords word refl e

no_sign : (word : List ℕ) → is_parameter (kind_in signs word) ≡ true → ⊥
unfolding signs
no_sign word e = none_listed signs word refl e

no_further : (word : List ℕ) → is_parameter (kind_in further word) ≡ true → ⊥
unfolding further
no_further word e = none_listed further word refl e

-- the number that its digits write is at most 254
low_digits : (digits : List ℕ) → is_parameter (parameter_kind digits) ≡ true → read_digits 0 digits ≤ 254
low_digits digits e = of (nat_le (read_digits 0 digits) 254) refl e where
  of : (b : Bool) → nat_le (read_digits 0 digits) 254 ≡ b → is_parameter (if b then kinds.Parameter else kinds.HighParameter) ≡ true → read_digits 0 digits ≤ 254
  of true s p = leb-true (read_digits 0 digits) 254 s
  of false s p = absurd (true≢false (sym p))

low_word : (word : List ℕ) → is_parameter (word_kind word) ≡ true → read_digits 0 (drop 9 word) ≤ 254
low_word word e = of (names_parameter word) e where
  of : (b : Bool) → is_parameter (if b then parameter_kind (drop 9 word) else kind_in further word) ≡ true → read_digits 0 (drop 9 word) ≤ 254
  of true p = low_digits (drop 9 word) p
  of false p = absurd (no_further word p)

low_token : (k : TokenKind) (word : List ℕ) → is_parameter (kind_of k word) ≡ true → read_digits 0 (drop 9 word) ≤ 254
low_token tokens.Word word e = low_word word e
low_token tokens.Keyword word e = absurd (no_keyword word e)
low_token tokens.Number word e = absurd (true≢false (sym e))
low_token tokens.Text word e = absurd (true≢false (sym e))
low_token tokens.Sign word e = absurd (no_sign word e)

-- the token that a lexeme of the text is of
of_token : (bytes : List ℕ) (ts : List Token) (k : ℕ) (t : Lexeme) → k < length (lexemes bytes ts) → get_or (lexemes bytes ts) k t ≡ t → (r : Token) × (lexeme bytes r ≡ t)
of_token bytes [] k t less e = absurd (omega (arith, less))
of_token bytes (r ∷ ts) zero t less e = (r, e)
of_token bytes (r ∷ ts) (suc k) t less e = of_token bytes ts k t (omega (arith, less)) e

pub low_parameter : (bytes : List ℕ) (ts : List Token) (t : Lexeme) → Contains (lexemes bytes ts) t → has (kinds.Parameter ∷ []) t.kind ≡ true → parameter_of bytes t ≤ 254
low_parameter bytes ts t c h =
    let r = of_token bytes ts c.0 t c.1 c.2 in
    subst (λ (u : Lexeme). is_parameter u.kind ≡ true → parameter_of bytes u ≤ 254) r.1 (low_token r.0.kind (text bytes (lexeme bytes r.0))) h
