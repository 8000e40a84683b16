-- The tokens of a text: each has the form that its kind says. So names are words, literals are literals, and modifiers are modifiers.
use Rattle.std.proofs.Common.{◌≡◌, ℕ, suc, nat_le, Bool, true, false, cond, ◌||◌, ◌&&◌, List, [], ◌∷◌, ◌++◌, length, drop, All, sym, ap, subst, refl, ◌∙◌, arith, append_assoc, length-append, codes, true≢false, if◌then◌else◌}
use Rattle.std.specs.Str.{bytes_eq}
use Rattle.std.proofs.lemmas.Bool.{and_parts}
use Rattle.std.proofs.lemmas.List.Elements.{All-nil, All-cons}
use Rattle.std.proofs.lemmas.Slice.Eq.{bytes_eq-Decides}
use Rattle.jimple_lex.specs.Forms.{IsWord, IsNumber, IsString, is_sign}
use Rattle.jimple_lex.specs.Lexed.{Lexed, ends, blank, comment, token}
use Rattle.jimple_lex.specs.Tokens.{IsToken}
use Rattle.jimple_lex.specs.declared.token.Token.{Token}
use Rattle.jimple_lex.specs.declared.token.TokenKind.{TokenKind}
use Rattle.jimple_lex.specs.declared.token.TokenKind.TheVariants.{Word, Keyword, Number, Text, Sign}
use Rattle.jimple_words.specs.declared.kind.Kind.{Kind}
use Rattle.jimple_words.specs.declared.kind.Kind.TheVariants as kinds
use Rattle.jimple_grammar.specs.declared.lexeme.Lexeme.{Lexeme}
use Rattle.jimple_grammar.specs.Fits.{Is}
use Rattle.jimple_words.specs.Kind.{Kinds, has}
use Rattle.jimple_words.specs.Kinds.{Texts, kind_in, is_in, word_kind, parameter_kind, names_parameter, keywords, signs, further, read_digits}
use Rattle.jimple_grammar.specs.Lexemes.{kind_of}
use Rattle.jimple_grammar.specs.Lexemes.{between, lexeme, lexemes}
use Rattle.jimple_words.specs.Sets.{words, modifiers, constants}
use Rattle.jimple_grammar.proofs.Opens.{subset, in_subset}
use Rattle.jimple_names.specs.Texts.{text, name_of}
use Rattle.jimple_tree.specs.Names.{is_one_of}
use Rattle.jimple_rewrite.proofs.IsName.{IsName, unquoted}
use Rattle.jimple_rewrite.proofs.Written.{IsLiteral, null, number, string, IsModifier, modifier_keywords, further_words}
use Rattle.jimple_rewrite.proofs.Lexing.{between_is}
use Rattle.jimple_rewrite.proofs.Names.{word_named}

-- the form of a token
abbrev pub Form : TokenKind → List ℕ → Type 0
Form Word t = IsWord t
Form Keyword t = IsWord t
Form Number t = IsNumber t
Form Text t = IsString t
Form Sign t = is_sign t ≡ true

pub of_token : (kind : TokenKind) (t rest : List ℕ) → IsToken kind t rest → Form kind t
of_token Word t rest h = h.0.is
of_token Keyword t rest h = h.0.is
of_token Number t rest h = h.is
of_token Text t rest h = h
of_token Sign t rest h = h.longest.is

-- a token of the text, of a kind that is that of its bytes
pub record IsTokenOf (bytes : List ℕ) (t : Lexeme) : Type 0 where
  pub kind : TokenKind
  pub is : t.kind ≡ kind_of kind (text bytes t)
  pub form : Form kind (text bytes t)

tokens_from : (bytes before whole : List ℕ) (at : ℕ) (ts : List Token) → bytes ≡ before ++ whole → at ≡ length before → Lexed at whole ts → All (IsTokenOf bytes) (lexemes bytes ts)
tokens_from bytes before whole at ts e n ends = All-nil (IsTokenOf bytes)
tokens_from bytes before whole at ts e n (blank {c} {rest} b l) =
    tokens_from bytes (before ++ c ∷ []) rest (suc at) ts (e ∙ sym (append_assoc before (c ∷ []) rest)) (let k = length-append before (c ∷ []) in omega (arith, n, k)) l
tokens_from bytes before whole at ts e n (comment {to} t rest parts ends_at c l) =
    tokens_from bytes (before ++ t) rest to ts (e ∙ ap (λ (w : List ℕ). before ++ w) parts ∙ sym (append_assoc before t rest)) (let k = length-append before t in omega (arith, n, k, ends_at)) l
tokens_from bytes before whole at ts e n (token {to} {later} kind t rest parts ends_at i l) =
    let here : bytes ≡ before ++ (t ++ rest) = e ∙ ap (λ (w : List ℕ). before ++ w) parts in
    let one : Token = record { kind = kind; from = at; to = to } in
    let same : between bytes at to ≡ t = ap (between bytes at) ends_at ∙ between_is bytes before t rest at here n in
    All-cons (IsTokenOf bytes) (lexeme bytes one) (lexemes bytes later) (record { kind = kind; is = refl; form = subst (Form kind) (sym same) (of_token kind t rest i) })
    (tokens_from bytes (before ++ t) rest to later (here ∙ sym (append_assoc before t rest)) (let k = length-append before t in omega (arith, n, k, ends_at)) l)

pub tokens_of : (bytes : List ℕ) (ts : List Token) → Lexed 0 bytes ts → All (IsTokenOf bytes) (lexemes bytes ts)
tokens_of bytes ts l = tokens_from bytes [] bytes 0 ts refl refl l

-- What a text is whose kind is one of some

-- each entry of one of these kinds has a text that passes
abbrev pass : Kinds → (List ℕ → Bool) → Texts → Bool
pass ks test [] = true
pass ks test (entry ∷ entries) = cond (has ks entry.1) (test entry.0) true && pass ks test entries

listed : (entries : Texts) (ks : Kinds) (test : List ℕ → Bool) (t : List ℕ) → pass ks test entries ≡ true → has ks kinds.Word ≡ false → has ks (kind_in entries t) ≡ true → test t ≡ true
listed [] ks test t p w h = absurd (true≢false (sym h ∙ w))
listed (entry ∷ entries) ks test t p w h =
    let parts = and_parts (cond (has ks entry.1) (test entry.0) true) (pass ks test entries) p in
    of (bytes_eq t entry.0) refl h parts.0 (listed entries ks test t parts.1 w)
  where
    when : (b : Bool) → b ≡ true → cond b (test entry.0) true ≡ true → test entry.0 ≡ true
    when true e c = c
    when false e c = absurd (true≢false (sym e))

    of : (b : Bool) → bytes_eq t entry.0 ≡ b → has ks (if b then entry.1 else kind_in entries t) ≡ true → cond (has ks entry.1) (test entry.0) true ≡ true → (has ks (kind_in entries t) ≡ true → test t ≡ true) → test t ≡ true
    of true same k c rest = ap test ((bytes_eq-Decides t entry.0).0 same) ∙ when (has ks entry.1) k c
    of false same k c rest = rest k

-- the kinds have no word that is just a word, and no parameter
abbrev plain : Kinds → Bool
plain ks = cond (has ks kinds.Word) false (cond (has ks kinds.Parameter) false (cond (has ks kinds.HighParameter) false true))

none_three : (a b c : Bool) → cond a false (cond b false (cond c false true)) ≡ true → (a ≡ false) × (b ≡ false) × (c ≡ false)
none_three true b c e = absurd (true≢false (sym e))
none_three false true c e = absurd (true≢false (sym e))
none_three false false true e = absurd (true≢false (sym e))
none_three false false false e = (refl, refl, refl)

word_listed : (ks : Kinds) (test : List ℕ → Bool) (t : List ℕ) → pass ks test further ≡ true → plain ks ≡ true → has ks (word_kind t) ≡ true → test t ≡ true
word_listed ks test t p n h = of (names_parameter t) h where
  three : (has ks kinds.Word ≡ false) × (has ks kinds.Parameter ≡ false) × (has ks kinds.HighParameter ≡ false)
  three = none_three (has ks kinds.Word) (has ks kinds.Parameter) (has ks kinds.HighParameter) n

  low : (digits : List ℕ) (b : Bool) → has ks (if b then kinds.Parameter else kinds.HighParameter) ≡ true → test t ≡ true
  low digits true k = absurd (true≢false (sym k ∙ three.1))
  low digits false k = absurd (true≢false (sym k ∙ three.2))

  of : (b : Bool) → has ks (if b then parameter_kind (drop 9 t) else kind_in further t) ≡ true → test t ≡ true
  of true k = low (drop 9 t) (nat_le (read_digits 0 (drop 9 t)) 254) k
  of false k = listed further ks test t p three.0 k

-- all signs are in the table of signs
sign_listed : (entries : Texts) (ks : Kinds) (t : List ℕ) → pass ks (λ x. false) entries ≡ true → is_in entries t ≡ true → has ks (kind_in entries t) ≡ false
sign_listed [] ks t p any = absurd (true≢false (sym any))
sign_listed (entry ∷ entries) ks t p any =
    let parts = and_parts (cond (has ks entry.1) false true) (pass ks (λ x. false) entries) p in
    of (bytes_eq t entry.0) any parts.0 (sign_listed entries ks t parts.1)
  where
    off : (b : Bool) → cond b false true ≡ true → b ≡ false
    off true e = absurd (true≢false (sym e))
    off false e = refl

    of : (b : Bool) → (b || is_in entries t) ≡ true → cond (has ks entry.1) false true ≡ true → (is_in entries t ≡ true → has ks (kind_in entries t) ≡ false) → has ks (if b then entry.1 else kind_in entries t) ≡ false
    of true h c rest = off (has ks entry.1) c
    of false h c rest = rest h

no_word_sign : (t : List ℕ) → is_sign t ≡ true → has words (kind_in signs t) ≡ false
unfolding signs is_sign
no_word_sign t h = sign_listed signs words t refl h

word_form : (kind : TokenKind) (t : List ℕ) → has words (kind_of kind t) ≡ true → Form kind t → IsWord t
word_form Word t h f = f
word_form Keyword t h f = f
word_form Number t h f = absurd (true≢false (sym h))
word_form Text t h f = absurd (true≢false (sym h))
word_form Sign t h f = absurd (true≢false (sym h ∙ no_word_sign t f))

-- by the numbers alone: nothing else is listed with such a kind
number_form : (kind : TokenKind) (t : List ℕ) → has (kinds.Number ∷ []) (kind_of kind t) ≡ true → Form kind t → IsNumber t
unfolding keywords further signs
number_form Word t h f = absurd (true≢false (sym (word_listed (kinds.Number ∷ []) (λ x. false) t refl refl h)))
number_form Keyword t h f = absurd (true≢false (sym (listed keywords (kinds.Number ∷ []) (λ x. false) t refl refl h)))
number_form Number t h f = f
number_form Text t h f = absurd (true≢false (sym h))
number_form Sign t h f = absurd (true≢false (sym (listed signs (kinds.Number ∷ []) (λ x. false) t refl refl h)))

string_form : (kind : TokenKind) (t : List ℕ) → has (kinds.Text ∷ []) (kind_of kind t) ≡ true → Form kind t → IsString t
unfolding keywords further signs
string_form Word t h f = absurd (true≢false (sym (word_listed (kinds.Text ∷ []) (λ x. false) t refl refl h)))
string_form Keyword t h f = absurd (true≢false (sym (listed keywords (kinds.Text ∷ []) (λ x. false) t refl refl h)))
string_form Number t h f = absurd (true≢false (sym h))
string_form Text t h f = f
string_form Sign t h f = absurd (true≢false (sym (listed signs (kinds.Text ∷ []) (λ x. false) t refl refl h)))

literal_form : (kind : TokenKind) (t : List ℕ) → has constants (kind_of kind t) ≡ true → Form kind t → IsLiteral t
unfolding keywords further signs
literal_form Word t h f = absurd (true≢false (sym (word_listed constants (λ x. false) t refl refl h)))
literal_form Keyword t h f = null ((bytes_eq-Decides t (codes "null")).0 (listed keywords constants (λ x. bytes_eq x (codes "null")) t refl refl h))
literal_form Number t h f = number f
literal_form Text t h f = string f
literal_form Sign t h f = absurd (true≢false (sym (listed signs constants (λ x. false) t refl refl h)))

abbrev pub modifier_kinds : Kinds
modifier_kinds = modifiers ++ kinds.Further ∷ []

abbrev names_modifier : List ℕ → Bool
names_modifier t = is_one_of (modifier_keywords ++ further_words) (unquoted t)

modifier_form : (kind : TokenKind) (t : List ℕ) → has modifier_kinds (kind_of kind t) ≡ true → IsModifier (unquoted t)
unfolding keywords further signs is_one_of modifier_keywords
modifier_form Word t h = word_listed modifier_kinds names_modifier t refl refl h
modifier_form Keyword t h = listed keywords modifier_kinds names_modifier t refl refl h
modifier_form Number t h = absurd (true≢false (sym h))
modifier_form Text t h = absurd (true≢false (sym h))
modifier_form Sign t h = listed signs modifier_kinds names_modifier t refl refl h

module _ (bytes : List ℕ) (n : ℕ) where
  abbrev pub IsOfKinds : Kinds → Lexeme → Type 0
  IsOfKinds ks t = Is (IsTokenOf bytes) n ks t

  of_kind : (ks : Kinds) (t : Lexeme) (h : IsOfKinds ks t) → has ks (kind_of h.0.kind (text bytes t)) ≡ true
  of_kind ks t h = subst (λ (k : Kind). has ks k ≡ true) h.0.is h.1

  pub name_written : (ks : Kinds) → subset ks words ≡ true → (t : Lexeme) → IsOfKinds ks t → IsName (name_of bytes t)
  name_written ks s t h = word_named (text bytes t) (word_form h.0.kind (text bytes t) (in_subset ks words (kind_of h.0.kind (text bytes t)) s (of_kind ks t h)) h.0.form)

  pub literal_written : (t : Lexeme) → IsOfKinds constants t → IsLiteral (text bytes t)
  literal_written t h = literal_form h.0.kind (text bytes t) (of_kind constants t h) h.0.form

  pub string_written : (t : Lexeme) → IsOfKinds (kinds.Text ∷ []) t → IsString (text bytes t)
  string_written t h = string_form h.0.kind (text bytes t) (of_kind (kinds.Text ∷ []) t h) h.0.form

  pub number_written : (t : Lexeme) → IsOfKinds (kinds.Number ∷ []) t → IsNumber (text bytes t)
  number_written t h = number_form h.0.kind (text bytes t) (of_kind (kinds.Number ∷ []) t h) h.0.form

  pub modifier_written : (t : Lexeme) → IsOfKinds modifier_kinds t → IsModifier (name_of bytes t)
  modifier_written t h = modifier_form h.0.kind (text bytes t) (of_kind modifier_kinds t h)
