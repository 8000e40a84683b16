-- What stands at the front of a text shows in its first bytes.
use Rattle.std.proofs.Common.{◌≡◌, ◌⊎◌, inl, inr, ℕ, zero, suc, ◌+◌, Bool, true, false, cond, ◌||◌, ◌&&◌, ◌==◌, not, List, [], ◌∷◌, ◌++◌, drop, slice_index, sym, ap, subst, refl, ◌∙◌, arith, codes}
use Rattle.std.specs.List.{list_any, list_all}
use Rattle.jimple_lex.specs.Bytes.{is_blank, begins_with, hash, minus, double_quote}
use Rattle.jimple_words.specs.Bytes.{is_digit}
use Rattle.jimple_lex.specs.Forms.{IsWord, segments, initializer, class_initializer, IsNumber, unsigned, negative, named, named_negative, IsString, is_sign, IsComment, line, block}
use Rattle.jimple_words.specs.Kinds.{signs}
use Rattle.jimple_lex.specs.Tokens.{Begins, begins_comment, IsSign}
use Rattle.jimple_lex.specs.Front.{front, front_of_sign, begins_digit, begins_initializer}
use Rattle.jimple_lex.specs.Signs.{is_single, is_pair, is_triple}
use Rattle.jimple_lex.specs.declared.front.Front.{Front}
use Rattle.jimple_lex.specs.declared.front.Front.TheVariants as fronts
use Rattle.jimple_lex.proofs.Segments.{begins_segment, joined_head}
use Rattle.jimple_lex.proofs.Signs.{sign_one, sign_two, sign_three, sign_four}

cond_no : (b : Bool) (x y : Front) → b ≡ false → cond b x y ≡ y
cond_no true x y e = absurd (let bad : true ≡ false = e in cc)
cond_no false x y e = refl

cond_yes : (b : Bool) (x y : Front) → b ≡ true → cond b x y ≡ x
cond_yes true x y e = refl
cond_yes false x y e = absurd (let bad : true ≡ false = sym e in cc)

pub sign_left : (t n c i : Bool) → t ≡ false → n ≡ false → c ≡ false → i ≡ false → fronts.Sign ≡ cond t fronts.Text (cond n fronts.Number (cond c fronts.Comment (cond i fronts.Word fronts.Sign)))
sign_left t n c i a b d e = sym (cond_no t _ _ a ∙ cond_no n _ _ b ∙ cond_no c _ _ d ∙ cond_no i _ _ e)

pub front_left : (c : ℕ) (cs : List ℕ) → is_blank c ≡ false → begins_segment c ≡ false → (is_digit c || (c == hash)) ≡ false → front (c ∷ cs) ≡ front_of_sign c cs
front_left c cs a b d = cond_no (is_blank c) _ _ a ∙ cond_no (begins_segment c) _ _ b ∙ cond_no (is_digit c || (c == hash)) _ _ d

pub blank_front : (c : ℕ) (cs : List ℕ) → is_blank c ≡ true → front (c ∷ cs) ≡ fronts.Blank
blank_front c cs a = cond_yes (is_blank c) _ _ a

no_blank_segment : (c : ℕ) → begins_segment c ≡ true → is_blank c ≡ false
no_blank_segment c s = grind arith

no_blank_digit : (c : ℕ) → is_digit c ≡ true → is_blank c ≡ false
no_blank_digit c s = grind arith

no_segment_digit : (c : ℕ) → is_digit c ≡ true → begins_segment c ≡ false
no_segment_digit c s = grind arith

segment_front : (c : ℕ) (cs : List ℕ) → begins_segment c ≡ true → front (c ∷ cs) ≡ fronts.Word
segment_front c cs s = cond_no (is_blank c) _ _ (no_blank_segment c s) ∙ cond_yes (begins_segment c) _ _ s

pub word_front : (text rest : List ℕ) → IsWord text → front (text ++ rest) ≡ fronts.Word
word_front text rest (segments j) = let h = joined_head text j in ap (λ (t : List ℕ). front (t ++ rest)) h.2 ∙ segment_front h.0 (h.1 ++ rest) h.3
word_front text rest (initializer e) = ap (λ (t : List ℕ). front (t ++ rest)) e
word_front text rest (class_initializer e) = ap (λ (t : List ℕ). front (t ++ rest)) e

digit_front : (d : ℕ) (ds : List ℕ) → is_digit d ≡ true → front (d ∷ ds) ≡ fronts.Number
digit_front d ds h = cond_no (is_blank d) _ _ (no_blank_digit d h) ∙ cond_no (begins_segment d) _ _ (no_segment_digit d h) ∙ cond_yes (is_digit d || (d == hash)) _ _ (ap (λ (v : Bool). v || (d == hash)) h)

negative_front : (d : ℕ) (ds : List ℕ) → is_digit d ≡ true → front (45 ∷ d ∷ ds) ≡ fronts.Number
negative_front d ds h = cond_yes (is_digit d) _ _ h

pub number_front : (text rest : List ℕ) → IsNumber text → front (text ++ rest) ≡ fronts.Number
number_front text rest (unsigned d ds e h g) = ap (λ (t : List ℕ). front (t ++ rest)) e ∙ digit_front d (ds ++ rest) h
number_front text rest (negative d ds e h g) = ap (λ (t : List ℕ). front (t ++ rest)) e ∙ negative_front d (ds ++ rest) h
number_front text rest (named d ds e h) = ap (λ (t : List ℕ). front (t ++ rest)) e
number_front text rest (named_negative d ds e h) = ap (λ (t : List ℕ). front (t ++ rest)) e

pub string_front : (text rest : List ℕ) → IsString text → front (text ++ rest) ≡ fronts.Text
string_front text rest s = ap (λ (t : List ℕ). front (t ++ rest)) s.between_quotes

pub comment_front : (text rest : List ℕ) → IsComment text rest → front (text ++ rest) ≡ fronts.Comment
comment_front text rest (line inside e p q) = ap (λ (t : List ℕ). front (t ++ rest)) e
comment_front text rest (block inside e p) = ap (λ (t : List ℕ). front (t ++ rest)) e

pub both : (a b : Bool) → (a && b) ≡ true → (a ≡ true) × (b ≡ true)
both true b e = (refl, e)
both false b e = absurd (let bad : false ≡ true = e in cc)

pub equal : (a b : ℕ) → (a == b) ≡ true → a ≡ b
equal a b e = grind arith

-- what begins with these bytes is them and a rest
begins_rest : (p whole : List ℕ) → begins_with p whole ≡ true → (rest : List ℕ) × (whole ≡ p ++ rest)
begins_rest [] whole b = (whole, refl)
begins_rest (x ∷ p) [] b = absurd (let bad : false ≡ true = b in cc)
begins_rest (x ∷ p) (y ∷ whole) b = let e = both (x == y) (begins_with p whole) b in let r = begins_rest p whole e.1 in let same : x ≡ y = equal x y e.0 in
    (r.0, ap (λ (h : ℕ). h ∷ whole) (sym same) ∙ ap (λ (t : List ℕ). x ∷ t) r.1)

pub either : (a b : Bool) → (a || b) ≡ true → (a ≡ true) ⊎ (b ≡ true)
either true b e = inl refl
either false b e = inr e

pub not_true : (b : Bool) → (b ≡ true → ⊥) → b ≡ false
not_true true n = absurd (n refl)
not_true false n = refl

pub comment_begins : (whole : List ℕ) → begins_comment whole ≡ true → front whole ≡ fronts.Comment
comment_begins whole b = elim (either (begins_with (codes "//") whole) (begins_with (codes "/*") whole) b) [
  | inl e ↦ ap front (begins_rest (codes "//") whole e).1
  | inr e ↦ ap front (begins_rest (codes "/*") whole e).1
]

or_true : (b : Bool) → (b || true) ≡ true
or_true true = refl
or_true false = refl

-- a test that each of these bytes fails
fails : (test : ℕ → Bool) (a : ℕ) (xs : List ℕ) → list_all (λ x. not (test x)) xs ≡ true → list_any (λ x. a == x) xs ≡ true → test a ≡ false
fails test a [] all any = absurd (let bad : false ≡ true = any in cc)
fails test a (x ∷ xs) all any = let each = both (not (test x)) (list_all (λ y. not (test y)) xs) all in
    elim (either (a == x) (list_any (λ y. a == y) xs) any) [
      | inl same ↦ ap test (equal a x same) ∙ not_it (test x) each.0
      | inr later ↦ fails test a xs each.1 later
    ]
  where
    not_it : (b : Bool) → not b ≡ true → b ≡ false
    not_it true e = absurd (let bad : false ≡ true = e in cc)
    not_it false e = refl

-- the first byte of a sign
abbrev begins_sign : ℕ → Bool
begins_sign a = (a == 33) || is_single a

pair_begins : (a b : ℕ) → is_pair a b ≡ true → begins_sign a ≡ true
pair_begins a b e = grind arith

triple_begins : (a b c : ℕ) → is_triple a b c ≡ true → begins_sign a ≡ true
triple_begins a b c e = grind arith

single_begins : (a : ℕ) → is_single a ≡ true → begins_sign a ≡ true
single_begins a e = ap (λ (v : Bool). (a == 33) || v) e ∙ or_true (a == 33)

pub sign_head : (text : List ℕ) → is_sign text ≡ true → (a : ℕ) × (more : List ℕ) × (text ≡ a ∷ more) × (begins_sign a ≡ true)
unfolding is_sign signs
sign_head [] e = absurd (let bad : false ≡ true = e in cc)
sign_head (a ∷ []) e = (a, [], refl, single_begins a (sym (sign_one a) ∙ e))
sign_head (a ∷ b ∷ []) e = (a, b ∷ [], refl, pair_begins a b (sym (sign_two a b) ∙ e))
sign_head (a ∷ b ∷ c ∷ []) e = (a, b ∷ c ∷ [], refl, triple_begins a b c (sym (sign_three a b c) ∙ e))
sign_head (a ∷ b ∷ c ∷ d ∷ more) e = absurd (let bad : false ≡ true = sym (sign_four a b c d more) ∙ e in cc)

no_blank_sign : (a : ℕ) → begins_sign a ≡ true → is_blank a ≡ false
no_blank_sign a s = fails is_blank a (33 ∷ codes "{}()[],;:.@=<>+-*/%&|^") refl s

no_segment_sign : (a : ℕ) → begins_sign a ≡ true → begins_segment a ≡ false
no_segment_sign a s = fails begins_segment a (33 ∷ codes "{}()[],;:.@=<>+-*/%&|^") refl s

no_unsigned_sign : (a : ℕ) → begins_sign a ≡ true → (is_digit a || (a == hash)) ≡ false
no_unsigned_sign a s = fails (λ x. is_digit x || (x == hash)) a (33 ∷ codes "{}()[],;:.@=<>+-*/%&|^") refl s

no_quote_sign : (a : ℕ) → begins_sign a ≡ true → (a == double_quote) ≡ false
no_quote_sign a s = fails (λ x. x == double_quote) a (33 ∷ codes "{}()[],;:.@=<>+-*/%&|^") refl s

pub sign_front : (text rest : List ℕ) → IsSign text rest → front (text ++ rest) ≡ fronts.Sign
sign_front text rest s = let h = sign_head text s.longest.is in
    let whole : text ++ rest ≡ h.0 ∷ (h.1 ++ rest) = ap (λ (t : List ℕ). t ++ rest) h.2 in
    ap front whole ∙ front_left h.0 (h.1 ++ rest) (no_blank_sign h.0 h.3) (no_segment_sign h.0 h.3) (no_unsigned_sign h.0 h.3)
    ∙ sym (sign_left (h.0 == double_quote) _ _ _ (no_quote_sign h.0 h.3)
    (not_true _ (λ b. s.no_number (subst (Begins IsNumber) (sym whole) (number_here h.0 (h.1 ++ rest) b))))
    (ap begins_comment (sym whole) ∙ s.no_comment)
    (not_true _ (λ b. s.no_word (subst (Begins IsWord) (sym whole) (word_here (h.0 ∷ (h.1 ++ rest)) b)))))
  where
    number_here : (a : ℕ) (w : List ℕ) → ((a == minus) && begins_digit w) ≡ true → Begins IsNumber (a ∷ w)
    number_here a [] b = absurd (let bad : false ≡ true = (both (a == minus) false b).1 in cc)
    number_here a (d ∷ w) b = let e = both (a == minus) (is_digit d) b in
        record { text = 45 ∷ d ∷ []; rest = w; parts = ap (λ (x : ℕ). x ∷ d ∷ w) (equal a 45 e.0); is = negative d [] refl e.1 tt }

    word_here : (whole : List ℕ) → begins_initializer whole ≡ true → Begins IsWord whole
    word_here whole b = elim (either (begins_with (codes "<init>") whole) (begins_with (codes "<clinit>") whole) b) [
      | inl e ↦ let r = begins_rest (codes "<init>") whole e in record { text = codes "<init>"; rest = r.0; parts = r.1; is = initializer refl }
      | inr e ↦ let r = begins_rest (codes "<clinit>") whole e in record { text = codes "<clinit>"; rest = r.0; parts = r.1; is = class_initializer refl }
    ]

pub negative_there : {answer : Bool} (a : ℕ) (w : List ℕ) → a ≡ minus → answer ≡ begins_digit w → answer ≡ ((a == minus) && begins_digit w)
negative_there a w is e = e ∙ sym (ap (λ (x : ℕ). (x == minus) && begins_digit w) is)

pub digit_behind : (bytes : List ℕ) (at : ℕ) → is_digit (slice_index bytes (at + 1)) ≡ begins_digit (drop (suc at) bytes)
digit_behind bytes at = let one : at + 1 ≡ suc at = omega arith in ap (λ (k : ℕ). is_digit (slice_index bytes k)) one ∙ there bytes (suc at) where
  there : (bs : List ℕ) (k : ℕ) → is_digit (slice_index bs k) ≡ begins_digit (drop k bs)
  there [] zero = refl
  there [] (suc k) = refl
  there (b ∷ bs) zero = refl
  there (b ∷ bs) (suc k) = there bs k

pub differs : (a b : ℕ) → (a ≡ b → ⊥) → (a == b) ≡ false
differs a b n = grind arith

-- what the first bytes said
which : Bool → Bool → Bool → Bool → Bool → Bool → Bool → Front
which b s u t n m i = cond b fronts.Blank (cond s fronts.Word (cond u fronts.Number (cond t fronts.Text (cond n fronts.Number (cond m fronts.Comment (cond i fronts.Word fronts.Sign))))))

which_text : (b s u t n m i : Bool) → which b s u t n m i ≡ fronts.Text → t ≡ true
unfolding which
which_text true s u t n m i e = absurd (let bad : fronts.Blank ≡ fronts.Text = e in cc)
which_text false true u t n m i e = absurd (let bad : fronts.Word ≡ fronts.Text = e in cc)
which_text false false true t n m i e = absurd (let bad : fronts.Number ≡ fronts.Text = e in cc)
which_text false false false true n m i e = refl
which_text false false false false true m i e = absurd (let bad : fronts.Number ≡ fronts.Text = e in cc)
which_text false false false false false true i e = absurd (let bad : fronts.Comment ≡ fronts.Text = e in cc)
which_text false false false false false false true e = absurd (let bad : fronts.Word ≡ fronts.Text = e in cc)
which_text false false false false false false false e = absurd (let bad : fronts.Sign ≡ fronts.Text = e in cc)

which_blank : (b s u t n m i : Bool) → which b s u t n m i ≡ fronts.Blank → b ≡ true
unfolding which
which_blank true s u t n m i e = refl
which_blank false true u t n m i e = absurd (let bad : fronts.Word ≡ fronts.Blank = e in cc)
which_blank false false true t n m i e = absurd (let bad : fronts.Number ≡ fronts.Blank = e in cc)
which_blank false false false true n m i e = absurd (let bad : fronts.Text ≡ fronts.Blank = e in cc)
which_blank false false false false true m i e = absurd (let bad : fronts.Number ≡ fronts.Blank = e in cc)
which_blank false false false false false true i e = absurd (let bad : fronts.Comment ≡ fronts.Blank = e in cc)
which_blank false false false false false false true e = absurd (let bad : fronts.Word ≡ fronts.Blank = e in cc)
which_blank false false false false false false false e = absurd (let bad : fronts.Sign ≡ fronts.Blank = e in cc)

-- the seven tests
as_which : (c : ℕ) (cs : List ℕ) → front (c ∷ cs) ≡ which (is_blank c) (begins_segment c) (is_digit c || (c == hash)) (c == double_quote) ((c == minus) && begins_digit cs) (begins_comment (c ∷ cs)) (begins_initializer (c ∷ cs))
unfolding which
as_which c cs = refl

pub text_front : (c : ℕ) (cs : List ℕ) → front (c ∷ cs) ≡ fronts.Text → c ≡ double_quote
text_front c cs e = equal c double_quote (which_text _ _ _ _ _ _ _ (sym (as_which c cs) ∙ e))

pub front_blank : (c : ℕ) (cs : List ℕ) → front (c ∷ cs) ≡ fronts.Blank → is_blank c ≡ true
front_blank c cs e = which_blank _ _ _ _ _ _ _ (sym (as_which c cs) ∙ e)
