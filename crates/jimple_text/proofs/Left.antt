-- The tokens that are left, and the one before them.
use Rattle.std.proofs.Common.{◌≡◌, ℕ, zero, suc, ◌+◌, ◌-◌, ◌≤◌, true, nat_lt, List, [], ◌∷◌, ◌++◌, length, map, slice_index_or, sym, ◌∙◌, ap, arith}
use Rattle.std.proofs.lemmas.List.{length-append, length-map}
use Rattle.std.proofs.lemmas.Bool.{ltb-true}
use Rattle.jimple_lex.specs.declared.token.Token.{Token}
use Rattle.jimple_grammar.specs.declared.lexeme.Lexeme.{Lexeme}
use Rattle.jimple_grammar.specs.Lexemes.{lexeme, lexemes}
use Rattle.jimple_text.specs.Reads.{place, form_in_front, form_of, last_place}

-- what stands behind the front of a mapped list
at_behind : {A B : Type 0} (f : A → B) (xs : List A) (front : List B) (y : B) (rest : List B) (d : A) → map f xs ≡ front ++ y ∷ rest → f (slice_index_or xs (length front) d) ≡ y
at_behind f [] [] y rest d e = absurd (let bad : [] ≡ y ∷ rest = e in cc)
at_behind f (x ∷ xs) [] y rest d e = cc
at_behind f [] (z ∷ front) y rest d e = absurd (let bad : [] ≡ z ∷ (front ++ y ∷ rest) = e in cc)
at_behind f (x ∷ xs) (z ∷ front) y rest d e = let later : map f xs ≡ front ++ y ∷ rest = cc in at_behind f xs front y rest d later

-- and the last of the front
last_is : (bytes : List ℕ) (ts : List Token) (front rest : List Lexeme) (m : ℕ) (d : Token) → lexemes bytes ts ≡ front ++ rest → length front ≡ suc m → last_place front ≡ (slice_index_or ts m d).from
last_is bytes ts [] rest m d e n = absurd (let bad : 0 ≡ suc m = n in cc)
last_is bytes [] (t ∷ front) rest m d e n = absurd (let bad : [] ≡ t ∷ (front ++ rest) = e in cc)
last_is bytes (s ∷ ts) (t ∷ []) rest zero d e n = let same : lexeme bytes s ≡ t = cc in ap (λ (l : Lexeme). l.from) (sym same)
last_is bytes (s ∷ ts) (t ∷ []) rest (suc m) d e n = absurd (let bad : 1 ≡ suc (suc m) = n in cc)
last_is bytes (s ∷ ts) (t ∷ u ∷ front) rest zero d e n = absurd (let bad : suc (suc (length front)) ≡ 1 = n in cc)
last_is bytes (s ∷ ts) (t ∷ u ∷ front) rest (suc m) d e n =
    let later : lexemes bytes ts ≡ (u ∷ front) ++ rest = cc in
    let less : length (u ∷ front) ≡ suc m = cc in
    last_is bytes ts (u ∷ front) rest m d later less

module _ (bytes : List ℕ) (ts : List Token) (front rest : List Lexeme) (parts : lexemes bytes ts ≡ front ++ rest) (left : ℕ) (count : left ≡ length rest) where
  all : length ts ≡ length front + length rest
  all = sym (length-map ts (lexeme bytes)) ∙ ap length parts ∙ length-append front rest

  pub number_is : length ts - left ≡ length front
  number_is = let sum = all in omega (arith, sum, count)

pub place_some : (bytes : List ℕ) (ts : List Token) (left n : ℕ) (t d : Token) → n ≡ length ts - left → true ≡ nat_lt n (length ts) → t ≡ slice_index_or ts n d
    → (front rest : List Lexeme) → lexemes bytes ts ≡ front ++ rest → left ≡ length rest → t.from ≡ place bytes rest
place_some bytes ts left n t d is below here front [] parts count =
    let sum = all bytes ts front [] parts left count in
    let less = ltb-true n (length ts) (sym below) in
    absurd (omega (arith, sum, less, is, count))
place_some bytes ts left n t d is below here front (u ∷ rest) parts count =
    let at : n ≡ length front = is ∙ number_is bytes ts front (u ∷ rest) parts left count in
    let same : lexeme bytes t ≡ u = rw (here, at) (at_behind (lexeme bytes) ts front u rest d parts) in
    ap (λ (l : Lexeme). l.from) same

pub form_some : (bytes : List ℕ) (ts : List Token) (left n : ℕ) (t d : Token) → n ≡ length ts - left → true ≡ nat_lt n (length ts) → t ≡ slice_index_or ts n d
    → (front rest : List Lexeme) → lexemes bytes ts ≡ front ++ rest → left ≡ length rest → form_of (lexeme bytes t).kind ≡ form_in_front rest
form_some bytes ts left n t d is below here front [] parts count =
    let sum = all bytes ts front [] parts left count in
    let less = ltb-true n (length ts) (sym below) in
    absurd (omega (arith, sum, less, is, count))
form_some bytes ts left n t d is below here front (u ∷ rest) parts count =
    let at : n ≡ length front = is ∙ number_is bytes ts front (u ∷ rest) parts left count in
    let same : lexeme bytes t ≡ u = rw (here, at) (at_behind (lexeme bytes) ts front u rest d parts) in
    ap (λ (l : Lexeme). form_of l.kind) same

pub before_some : (bytes : List ℕ) (ts : List Token) (left n m : ℕ) (t d : Token) → n ≡ length ts - left → 1 ≤ n → m ≡ n - 1 → t ≡ slice_index_or ts m d
    → (front rest : List Lexeme) → lexemes bytes ts ≡ front ++ rest → left ≡ length rest → t.from ≡ last_place front
before_some bytes ts left n m t d is some less here front rest parts count =
    let at : n ≡ length front = is ∙ number_is bytes ts front rest parts left count in
    let long : length front ≡ suc m = omega (arith, at, some, less) in
    ap (λ (u : Token). u.from) here ∙ sym (last_is bytes ts front rest m d parts long)
