-- Only texts of its own length may be a text.
use Rattle.std.proofs.Common.{◌≡◌, ℕ, ◌==◌, Bool, true, false, List, [], ◌∷◌, length, refl, sym, ◌∙◌, ap, rules}
use Rattle.std.specs.Str.{bytes_eq}
use Rattle.std.proofs.lemmas.Bool.{eq-eqb}
use Rattle.std.proofs.lemmas.Slice.Eq.{bytes_eq-Decides}
use Rattle.jimple_words.specs.declared.kind.Kind.{Kind}
use Rattle.jimple_words.specs.declared.kind.Kind.TheVariants as kinds
use Rattle.jimple_words.specs.Kinds.{Texts, kind_in, of_length, keywords, signs}

same_text : (xs ys : List ℕ) → bytes_eq xs ys ≡ true → xs ≡ ys
same_text xs ys h = search (rules, bytes_eq-Decides)

eq_length : (xs ys : List ℕ) → bytes_eq xs ys ≡ true → (length ys == length xs) ≡ false → ⊥
eq_length xs ys h l = let e = same_text xs ys h in let s : (length ys == length xs) ≡ true = eq-eqb (length ys) (length xs) (ap length (sym e)) in cc

pub by_length : (table : Texts) (text : List ℕ) → kind_in table text ≡ kind_in (of_length (length text) table) text
by_length [] text = refl
by_length (entry ∷ entries) text = by_case (bytes_eq text entry.0) (length entry.0 == length text) (by_length entries text) refl refl where
  by_case : (same long : Bool) → kind_in entries text ≡ kind_in (of_length (length text) entries) text → bytes_eq text entry.0 ≡ same → (length entry.0 == length text) ≡ long → kind_in (entry ∷ entries) text ≡ kind_in (of_length (length text) (entry ∷ entries)) text
  by_case true true i s l = rw (l, s) refl
  by_case true false i s l = absurd (eq_length text entry.0 s l)
  by_case false true i s l = rw (l, s) i
  by_case false false i s l = rw (l, s) i

-- the entries of the text's length alone
pub at_length : (table : Texts) (n : ℕ) (text : List ℕ) (k : Kind) → length text ≡ n → k ≡ kind_in (of_length n table) text → k ≡ kind_in table text
at_length table n text k e h = h ∙ sym (by_length table text ∙ ap (λ (m : ℕ). kind_in (of_length m table) text) e)

-- none of these lengths
abbrev pub lengths : Texts → List ℕ
lengths [] = []
lengths (entry ∷ entries) = length entry.0 ∷ lengths entries

abbrev pub Lacks : List ℕ → ℕ → Type 0
Lacks [] n = Unit {0}
Lacks (m ∷ ms) n = ((m == n) ≡ false) × Lacks ms n

none_long : (table : Texts) (n : ℕ) → Lacks (lengths table) n → of_length n table ≡ []
none_long [] n h = refl
none_long (entry ∷ entries) n h = let e = h.0 in rw e (none_long entries n h.1)

other : (m n : ℕ) → (n ≡ m → ⊥) → (m == n) ≡ false
other m n h = search rules

pub no_keyword : (n : ℕ) → (n ≡ 2 → ⊥) → (n ≡ 3 → ⊥) → (n ≡ 4 → ⊥) → (n ≡ 5 → ⊥) → (n ≡ 6 → ⊥) → (n ≡ 7 → ⊥) → (n ≡ 8 → ⊥) → (n ≡ 9 → ⊥) → (n ≡ 10 → ⊥) → (n ≡ 11 → ⊥) → (n ≡ 12 → ⊥) → (n ≡ 13 → ⊥) → (n ≡ 15 → ⊥) → of_length n keywords ≡ []
unfolding keywords
no_keyword n h2 h3 h4 h5 h6 h7 h8 h9 h10 h11 h12 h13 h15 =
    let e2 = other 2 n h2 in let e3 = other 3 n h3 in let e4 = other 4 n h4 in let e5 = other 5 n h5 in let e6 = other 6 n h6 in let e7 = other 7 n h7 in let e8 = other 8 n h8 in
    let e9 = other 9 n h9 in let e10 = other 10 n h10 in let e11 = other 11 n h11 in let e12 = other 12 n h12 in let e13 = other 13 n h13 in let e15 = other 15 n h15 in
    none_long keywords n (e8, (e5, (e6, (e6, (e9, (e7, (e6, (e12, (e9, (e8, (e8, (e4, (e10, (e5, (e9, (e4, (e7, (e4, (e5, (e4, (e3, (e4, (e5, (e6, (e9, (e7, (e7, (e10, (e10, (e4, (e5, (e3, (e4, (e4, (e7, (e12, (e11, (e4, (e4, (e2, (e10, (e15, (e8, (e12, (e3, (e3, (e8, (e13, (e3, (e4, (e3, (e6, (e13, (e12, (e13, (e11, (e5, (e6, (e2, (e13, (e4, tt)))))))))))))))))))))))))))))))))))))))))))))))))))))))))))))

pub no_sign : (n : ℕ) → (n ≡ 1 → ⊥) → (n ≡ 2 → ⊥) → (n ≡ 3 → ⊥) → of_length n signs ≡ []
unfolding signs
no_sign n h1 h2 h3 =
    let e1 = other 1 n h1 in let e2 = other 2 n h2 in let e3 = other 3 n h3 in
    none_long signs n (e1, (e1, (e1, (e1, (e1, (e1, (e1, (e1, (e1, (e2, (e1, (e1, (e1, (e2, (e2, (e1, (e2, (e1, (e2, (e2, (e2, (e3, (e1, (e1, (e1, (e1, (e1, (e1, (e1, (e1, tt))))))))))))))))))))))))))))))

pub beside : (table : Texts) (text : List ℕ) → of_length (length text) table ≡ [] → kinds.Word ≡ kind_in table text
beside table text e = sym (by_length table text ∙ ap (λ (es : Texts). kind_in es text) e)
