-- At most one piece stands at the front of a text.
use Rattle.std.proofs.Common.{◌≡◌, inl, inr, ℕ, ◌<◌, Bool, true, false, cond, not, List, [], ◌∷◌, ◌++◌, length, sym, ap, subst, refl, ◌∙◌, arith, append_assoc, append-nil, codes, Some, None}
use Rattle.std.specs.List.{AllByRecursion}
use Rattle.jimple_lex.specs.Bytes.{line_feed}
use Rattle.jimple_lex.specs.Forms.{IsWord, segments, initializer, class_initializer, IsNumber, unsigned, negative, named, named_negative, IsString, IsInside, empty, literal, escaped, IsComment, line, block, AtLineEnd, is_sign}
use Rattle.jimple_words.specs.Kinds.{is_keyword}
use Rattle.jimple_lex.specs.Tokens.{Longest, IsToken}
use Rattle.jimple_lex.specs.Front.{front, FormOf, kind_of}
use Rattle.jimple_lex.specs.declared.front.Front.{Front}
use Rattle.jimple_lex.specs.declared.front.Front.TheVariants as fronts
use Rattle.jimple_lex.specs.declared.token.TokenKind.{TokenKind}
use Rattle.jimple_lex.specs.declared.token.TokenKind.TheVariants as kinds
use Rattle.jimple_lex.proofs.Parts.{Pass, NotNext, one_run, fronts as two_fronts, one_longest}
use Rattle.jimple_lex.proofs.Comments.{no_feed}
use Rattle.jimple_lex.proofs.Strings.{literal_no_quote, literal_no_slash}
use Rattle.jimple_lex.proofs.Fronts.{word_front, number_front, string_front, comment_front, sign_front, blank_front, sign_head, differs}
use Rattle.jimple_lex.proofs.Segments.{joined_head}

one_inside : (a b r s : List ℕ) → IsInside a → IsInside b → a ++ 34 ∷ r ≡ b ++ 34 ∷ s → (a ≡ b) × (r ≡ s)
one_inside a b r s empty empty e = (refl, cc)
one_inside a b r s empty (literal {c = c} t j) e = absurd (literal_no_quote c t (cc))
one_inside a b r s empty (escaped n j) e = absurd (let bad : ◌≡◌ {A = ℕ} 34 92 = cc in omega arith)
one_inside a b r s (literal {c = c} t i) empty e = absurd (literal_no_quote c t (cc))
one_inside a b r s (literal {c = c} {cs = cs} t i) (literal {c = d} {cs = ds} u j) e =
    let heads : c ≡ d = cc in let tails : cs ++ 34 ∷ r ≡ ds ++ 34 ∷ s = cc in
    let more = one_inside cs ds r s i j tails in (ap (λ (x : ℕ). x ∷ cs) heads ∙ ap (λ (t : List ℕ). d ∷ t) more.0, more.1)
one_inside a b r s (literal {c = c} t i) (escaped n j) e = absurd (literal_no_slash c t (cc))
one_inside a b r s (escaped n i) empty e = absurd (let bad : ◌≡◌ {A = ℕ} 92 34 = cc in omega arith)
one_inside a b r s (escaped n i) (literal {c = c} t j) e = absurd (literal_no_slash c t (cc))
one_inside a b r s (escaped {c = c} {cs = cs} n i) (escaped {c = d} {cs = ds} m j) e =
    let heads : c ≡ d = cc in let tails : cs ++ 34 ∷ r ≡ ds ++ 34 ∷ s = cc in
    let more = one_inside cs ds r s i j tails in (ap (λ (x : ℕ). 92 ∷ x ∷ cs) heads ∙ ap (λ (t : List ℕ). 92 ∷ d ∷ t) more.0, more.1)

one_string : (t r u s : List ℕ) → IsString t → IsString u → t ++ r ≡ u ++ s → (t ≡ u) × (r ≡ s)
one_string t r u s i j e =
    let whole : 34 ∷ ((i.inside ++ 34 ∷ []) ++ r) ≡ 34 ∷ ((j.inside ++ 34 ∷ []) ++ s) = sym (ap (λ (x : List ℕ). x ++ r) i.between_quotes) ∙ e ∙ ap (λ (x : List ℕ). x ++ s) j.between_quotes in
    let tails : (i.inside ++ 34 ∷ []) ++ r ≡ (j.inside ++ 34 ∷ []) ++ s = cc in
    let same = one_inside i.inside j.inside r s i.unbroken j.unbroken (sym (append_assoc i.inside (34 ∷ []) r) ∙ tails ∙ append_assoc j.inside (34 ∷ []) s) in
    (i.between_quotes ∙ ap (λ (x : List ℕ). 34 ∷ (x ++ 34 ∷ [])) same.0 ∙ sym j.between_quotes, same.1)

pass_feeds : (cs : List ℕ) → AllByRecursion (λ x. x ≡ line_feed → ⊥) cs → Pass no_feed cs
pass_feeds [] a = tt
pass_feeds (c ∷ cs) a = (ap not (differs c 10 a.0), pass_feeds cs a.1)

next_feeds : (cs : List ℕ) → AtLineEnd cs → NotNext no_feed cs
next_feeds [] a = tt
next_feeds (c ∷ cs) a = ap no_feed a

one_block : (a b r s : List ℕ) → ((before after : List ℕ) → b ≡ before ++ (codes "*/" ++ after) → ⊥) → (m : List ℕ) → b ≡ a ++ m → 42 ∷ 47 ∷ r ≡ m ++ 42 ∷ 47 ∷ s → (a ≡ b) × (r ≡ s)
one_block a b r s none [] e f = (sym (append-nil a) ∙ sym e, cc)
one_block a b r s none (x ∷ []) e f = absurd (let bad : ◌≡◌ {A = ℕ} 47 42 = cc in omega arith)
one_block a b r s none (x ∷ y ∷ m) e f = absurd (let first : x ≡ 42 = cc in let second : y ≡ 47 = cc in none a m (e ∙ ap (λ (z : ℕ). a ++ z ∷ y ∷ m) first ∙ ap (λ (z : ℕ). a ++ 42 ∷ z ∷ m) second))

one_comment : (t r u s : List ℕ) → IsComment t r → IsComment u s → t ++ r ≡ u ++ s → (t ≡ u) × (r ≡ s)
one_comment t r u s (line a e p q) (line b f i j) h =
    let whole : 47 ∷ 47 ∷ (a ++ r) ≡ 47 ∷ 47 ∷ (b ++ s) = sym (ap (λ (x : List ℕ). x ++ r) e) ∙ h ∙ ap (λ (x : List ℕ). x ++ s) f in
    let tails : a ++ r ≡ b ++ s = cc in
    let run = one_run no_feed a b r s (pass_feeds a p) (pass_feeds b i) (next_feeds r q) (next_feeds s j) tails in
    (e ∙ ap (λ (x : List ℕ). 47 ∷ 47 ∷ x) run.0 ∙ sym f, run.1)
one_comment t r u s (line a e p q) (block b f n) h = absurd (
    let whole : 47 ∷ 47 ∷ (a ++ r) ≡ 47 ∷ 42 ∷ ((b ++ 42 ∷ 47 ∷ []) ++ s) = sym (ap (λ (x : List ℕ). x ++ r) e) ∙ h ∙ ap (λ (x : List ℕ). x ++ s) f in
    let bad : ◌≡◌ {A = ℕ} 47 42 = cc in omega arith)
one_comment t r u s (block a e m) (line b f i j) h = absurd (
    let whole : 47 ∷ 42 ∷ ((a ++ 42 ∷ 47 ∷ []) ++ r) ≡ 47 ∷ 47 ∷ (b ++ s) = sym (ap (λ (x : List ℕ). x ++ r) e) ∙ h ∙ ap (λ (x : List ℕ). x ++ s) f in
    let bad : ◌≡◌ {A = ℕ} 42 47 = cc in omega arith)
one_comment t r u s (block a e m) (block b f n) h =
    let whole : 47 ∷ 42 ∷ ((a ++ 42 ∷ 47 ∷ []) ++ r) ≡ 47 ∷ 42 ∷ ((b ++ 42 ∷ 47 ∷ []) ++ s) = sym (ap (λ (x : List ℕ). x ++ r) e) ∙ h ∙ ap (λ (x : List ℕ). x ++ s) f in
    let tails : (a ++ 42 ∷ 47 ∷ []) ++ r ≡ (b ++ 42 ∷ 47 ∷ []) ++ s = cc in
    let same = elim (two_fronts a (42 ∷ 47 ∷ r) b (42 ∷ 47 ∷ s) (sym (append_assoc a (42 ∷ 47 ∷ []) r) ∙ tails ∙ append_assoc b (42 ∷ 47 ∷ []) s)) as (λ _. (a ≡ b) × (r ≡ s)) [
      | inl g ↦ one_block a b r s n g.0 g.1 g.2
      | inr g ↦ let back = one_block b a s r m g.0 g.1 g.2 in (sym back.0, sym back.1)
    ] in
    (e ∙ ap (λ (x : List ℕ). 47 ∷ 42 ∷ (x ++ 42 ∷ 47 ∷ [])) same.0 ∙ sym f, same.1)

one_form : (f : Front) (t r u s : List ℕ) → FormOf f t r → FormOf f u s → t ++ r ≡ u ++ s → (t ≡ u) × (r ≡ s)
one_form fronts.Blank t r u s a b e =
    let whole : a.0 ∷ r ≡ b.0 ∷ s = sym (ap (λ (x : List ℕ). x ++ r) a.1) ∙ e ∙ ap (λ (x : List ℕ). x ++ s) b.1 in
    let heads : a.0 ≡ b.0 = cc in
    (a.1 ∙ ap (λ (c : ℕ). c ∷ []) heads ∙ sym b.1, cc)
one_form fronts.Comment t r u s a b e = one_comment t r u s a b e
one_form fronts.Word t r u s a b e = one_longest IsWord t r u s a b e
one_form fronts.Number t r u s a b e = one_longest IsNumber t r u s a b e
one_form fronts.Text t r u s a b e = one_string t r u s a b e
one_form fronts.Sign t r u s a b e = one_longest (λ x. is_sign x ≡ true) t r u s a.longest b.longest e

pub form_front : (f : Front) (t r : List ℕ) → FormOf f t r → front (t ++ r) ≡ f
form_front fronts.Blank t r a = ap (λ (x : List ℕ). front (x ++ r)) a.1 ∙ blank_front a.0 r a.2
form_front fronts.Comment t r a = comment_front t r a
form_front fronts.Word t r a = word_front t r a.is
form_front fronts.Number t r a = number_front t r a.is
form_front fronts.Text t r a = string_front t r a
form_front fronts.Sign t r a = sign_front t r a

pub one_piece : (f g : Front) (t r u s : List ℕ) → FormOf f t r → FormOf g u s → t ++ r ≡ u ++ s → (f ≡ g) × (t ≡ u) × (r ≡ s)
one_piece f g t r u s a b e =
    let same : f ≡ g = sym (form_front f t r a) ∙ ap front e ∙ form_front g u s b in
    let one = one_form g t r u s (subst (λ (h : Front). FormOf h t r) same a) b e in
    (same, one.0, one.1)

-- the form of a token, and back
pub token_form : (k : TokenKind) (t r : List ℕ) → IsToken k t r → (f : Front) × FormOf f t r × (kind_of f t ≡ Some k)
token_form kinds.Word t r a = (fronts.Word, a.0, ap (λ (v : Bool). Some (cond v kinds.Keyword kinds.Word)) a.1)
token_form kinds.Keyword t r a = (fronts.Word, a.0, ap (λ (v : Bool). Some (cond v kinds.Keyword kinds.Word)) a.1)
token_form kinds.Number t r a = (fronts.Number, a, refl)
token_form kinds.Text t r a = (fronts.Text, a, refl)
token_form kinds.Sign t r a = (fronts.Sign, a, refl)

by_keyword : (b : Bool) (k : TokenKind) (t r : List ℕ) → is_keyword t ≡ b → Longest IsWord t r → Some (cond b kinds.Keyword kinds.Word) ≡ Some k → IsToken k t r
by_keyword true k t r e a same = let found : kinds.Keyword ≡ k = cc in subst (λ (h : TokenKind). IsToken h t r) found (a, e)
by_keyword false k t r e a same = let found : kinds.Word ≡ k = cc in subst (λ (h : TokenKind). IsToken h t r) found (a, e)

pub form_token : (f : Front) (k : TokenKind) (t r : List ℕ) → FormOf f t r → kind_of f t ≡ Some k → IsToken k t r
form_token fronts.Blank k t r a e = absurd (let bad : None ≡ Some k = e in cc)
form_token fronts.Comment k t r a e = absurd (let bad : None ≡ Some k = e in cc)
form_token fronts.Word k t r a e = by_keyword (is_keyword t) k t r refl a e
form_token fronts.Number k t r a e = let found : kinds.Number ≡ k = cc in subst (λ (h : TokenKind). IsToken h t r) found a
form_token fronts.Text k t r a e = let found : kinds.Text ≡ k = cc in subst (λ (h : TokenKind). IsToken h t r) found a
form_token fronts.Sign k t r a e = let found : kinds.Sign ≡ k = cc in subst (λ (h : TokenKind). IsToken h t r) found a

some_of : (t : List ℕ) (c : ℕ) (cs : List ℕ) → t ≡ c ∷ cs → 0 < length t
some_of t c cs e = let n = ap length e in omega (arith, n)

some_word : (t : List ℕ) → IsWord t → 0 < length t
some_word t (segments j) = let h = joined_head t j in some_of t h.0 h.1 h.2
some_word t (initializer e) = some_of t 60 (codes "init>") e
some_word t (class_initializer e) = some_of t 60 (codes "clinit>") e

some_number : (t : List ℕ) → IsNumber t → 0 < length t
some_number t (unsigned d ds e h g) = some_of t d ds e
some_number t (negative d ds e h g) = some_of t 45 (d ∷ ds) e
some_number t (named d ds e h) = some_of t 35 (d ∷ ds) e
some_number t (named_negative d ds e h) = some_of t 35 (45 ∷ d ∷ ds) e

some_comment : (t r : List ℕ) → IsComment t r → 0 < length t
some_comment t r (line inside e p q) = some_of t 47 (47 ∷ inside) e
some_comment t r (block inside e p) = some_of t 47 (42 ∷ (inside ++ 42 ∷ 47 ∷ [])) e

-- no piece is empty
pub form_some : (f : Front) (t r : List ℕ) → FormOf f t r → 0 < length t
form_some fronts.Blank t r a = some_of t a.0 [] a.1
form_some fronts.Comment t r a = some_comment t r a
form_some fronts.Word t r a = some_word t a.is
form_some fronts.Number t r a = some_number t a.is
form_some fronts.Text t r a = some_of t 34 (a.inside ++ 34 ∷ []) a.between_quotes
form_some fronts.Sign t r a = let h = sign_head t a.longest.is in some_of t h.0 h.1 h.2
