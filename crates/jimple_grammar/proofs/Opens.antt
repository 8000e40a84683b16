-- The first tokens of a form, where several of them tell what it is.
use Rattle.std.proofs.Common.{◌≡◌, ◌⊎◌, ℕ, zero, suc, ◌≤◌, Bool, true, false, cond, List, [], ◌∷◌, ◌++◌, length, ◌+◌, refl, sym, ◌∙◌, ap, subst, inl, inr, arith, append_assoc, append-nil, length-append}
use Rattle.std.specs.Prelude.{◌==◌}
use Rattle.std.proofs.lemmas.Bool.{eqb-true}
use mathlib.Core.Bool.{◌&&◌}
use Rattle.jimple_grammar.specs.declared.lexeme.Lexeme.{Lexeme}
use Rattle.jimple_words.specs.declared.kind.Kind.{Kind}
use Rattle.jimple_words.specs.Kind.{Kinds, has, among, number}
use Rattle.jimple_grammar.specs.Grammar.{Grammar, nothing, token, refused, both, either, many, given, ManySpells, last, more, ManyBegins, piece, end, later, Spells, BeginsBy, Then, ThenBegins}
use Rattle.jimple_grammar.specs.Reading.{sees_one, sees}
use Rattle.jimple_grammar.proofs.Parts.{cut, Laws}
use Rattle.jimple_grammar.proofs.Starts.{or_left, or_right, and_both, and_parts, not_both, disjoint, Follow, laws}
use Rattle.jimple_grammar.proofs.Sure.{Tells, PieceBegins, apart, or_cases, off_when}

-- The first set holds no kind that the second one lacks.
abbrev pub subset : Kinds → Kinds → Bool
subset [] ms = true
subset (k ∷ ks) ms = cond (has ms k) (subset ks ms) false

pub in_subset : (ks ms : Kinds) (k : Kind) → subset ks ms ≡ true → has ks k ≡ true → has ms k ≡ true
in_subset [] ms k s h = absurd cc
in_subset (j ∷ ks) ms k s h =
    let p = parts (has ms j) (subset ks ms) s in
    elim (or_cases (number k == number j) (has ks k) h) [
      | inl e ↦ subst (λ (n : ℕ). among ms n ≡ true) (sym (eqb-true (number k) (number j) e)) p.0
      | inr e ↦ in_subset ks ms k p.1 e
    ]
  where
    parts : (a b : Bool) → cond a b false ≡ true → (a ≡ true) × (b ≡ true)
    parts true b e = (refl, e)
    parts false b e = absurd cc

-- a kind of two sets is of one of them
pub has_parts : (ks ms : Kinds) (k : Kind) → has (ks ++ ms) k ≡ true → (has ks k ≡ true) ⊎ (has ms k ≡ true)
has_parts [] ms k h = inr h
has_parts (j ∷ ks) ms k h = elim (or_cases (number k == number j) (has (ks ++ ms) k) h) [
  | inl e ↦ inl (or_left (number k == number j) (has ks k) e)
  | inr e ↦ elim (has_parts ks ms k e) [ inl a ↦ inl (or_right (number k == number j) (has ks k) a) | inr b ↦ inr b ]
]

none_longer : (p m : List Lexeme) → length (p ++ m) ≤ length p → m ≡ []
none_longer [] [] h = refl
none_longer [] (u ∷ m) h = absurd (omega (arith, h))
none_longer (t ∷ p) m h = none_longer p m (omega (arith, h))

-- The first tokens begin the first part, where that part is no shorter.
pub opens : {A : Type 0} (S : List Lexeme → A → Type 0) (P : List Lexeme → Type 0) (Q : A → List Lexeme → Type 0) → Laws S P → (ts p l : List Lexeme) → ts ≡ p ++ l → ((x : A) (front rest : List Lexeme) → ts ≡ front ++ rest → S front x → length p ≤ length front) → ThenBegins S P Q ts → P p
opens S P Q a ts p l e long (inl h) = a.closed p l (subst P e h)
opens S P Q a ts p l e long (inr q) = elim (cut p l q.1 q.2 (sym e ∙ q.3)) [
  | inl m ↦ a.closed p m.0 (subst P m.1 (a.begun q.1 q.0 q.4))
  | inr m ↦
      let n : m.0 ≡ [] = none_longer q.1 m.0 (subst (λ (us : List Lexeme). length us ≤ length q.1) m.1 (long q.0 q.1 q.2 q.3 q.4)) in
      subst P (sym (m.1 ∙ ap (λ (us : List Lexeme). q.1 ++ us) n ∙ append-nil q.1)) (a.begun q.1 q.0 q.4)
]

abbrev pub pair : {A B : Type 0} → A → B → A × B
pair x y = (x, y)

-- a part of two parts, and then another: the first of the three, and then the others
abbrev pub regrouped : {A B C : Type 0} → Grammar A → Grammar B → Grammar C → Grammar (A × (B × C))
regrouped a b c = both pair a (both pair b c)

pub regroup : (n : ℕ) {A B C D E : Type 0} (f : A → B → C) (g : C → D → E) (a : Grammar A) (b : Grammar B) (c : Grammar D) (ts : List Lexeme) → BeginsBy n (both g (both f a b) c) ts → BeginsBy n (regrouped a b c) ts
regroup n f g a b c ts (inl (inl h)) = inl h
regroup n f g a b c ts (inl (inr q)) = inr (q.0, q.1, q.2, q.3, q.4, inl q.5)
regroup n f g a b c ts (inr q) = of q.2 q.3 q.5 q.4 where
  of : (rest : List Lexeme) → ts ≡ q.1 ++ rest → BeginsBy n c rest → Then (Spells a) (λ x. Spells b) f q.1 q.0 → BeginsBy n (regrouped a b c) ts
  of rest e h s = inr (s.0, s.2, s.3 ++ rest, e ∙ ap (λ (us : List Lexeme). us ++ rest) s.4 ∙ append_assoc s.2 s.3 rest, s.5, inr (s.1, s.3, rest, refl, s.6, h))

-- one token, and then what begins the form that it decides
pub given_off : (n : ℕ) {B C : Type 0} (f : Lexeme → B → C) (ks : Kinds) (b : Lexeme → Grammar B) (t : Lexeme) (us : List Lexeme) → BeginsBy n (given f (token ks) b) (t ∷ us) → (has ks t.kind ≡ true) × BeginsBy n (b t) us
given_off n f ks b t us (inl (inl e)) = absurd cc
given_off n f ks b t us (inl (inr h)) =
    let e : t ≡ h.0 = let k = h.1 in cc in
    let m : us ≡ [] = let k = h.1 in cc in
    (subst (λ (v : Lexeme). has ks v.kind ≡ true) (sym e) h.2, subst (BeginsBy n (b t)) (sym m) (laws n (b t)).empty)
given_off n f ks b t us (inr q) =
    let k : t ∷ us ≡ q.0 ∷ q.2 = q.3 ∙ ap (λ (vs : List Lexeme). vs ++ q.2) q.4.0 in
    let e : t ≡ q.0 = cc in
    let m : us ≡ q.2 = cc in
    (subst (λ (v : Lexeme). has ks v.kind ≡ true) (sym e) q.4.1, subst (BeginsBy n (b t)) (sym m) (subst (λ (v : Lexeme). BeginsBy n (b v) q.2) (sym e) q.5))

abbrev pub lesser : ℕ → ℕ → ℕ
lesser zero n = zero
lesser (suc m) zero = zero
lesser (suc m) (suc n) = suc (lesser m n)

lesser_left : (m n : ℕ) → lesser m n ≤ m
lesser_left zero n = omega arith
lesser_left (suc m) zero = omega arith
lesser_left (suc m) (suc n) = let i = lesser_left m n in omega (arith, i)

lesser_right : (m n : ℕ) → lesser m n ≤ n
lesser_right zero n = omega arith
lesser_right (suc m) zero = omega arith
lesser_right (suc m) (suc n) = let i = lesser_right m n in omega (arith, i)

-- No spelling has fewer tokens. A refused token spells nothing, so that any number is right for it.
abbrev pub least : {A : Type 0} → Grammar A → ℕ
least (nothing x) = 0
least (token ks) = 1
least (refused j ks) = 3
least (both f a b) = least a + least b
least (either a b) = lesser (least a) (least b)
least (many f look a step s b) = least b
least (given f a b) = least a

pub length_parts : (ts xs ys : List Lexeme) → ts ≡ xs ++ ys → length ts ≡ length xs + length ys
length_parts ts xs ys e = ap length e ∙ length-append xs ys

many_longer : {S A B : Type 0} (P : S → List Lexeme → A → Type 0) (step : S → A → S) (T : List Lexeme → B → Type 0) (m : ℕ) → ((p : List Lexeme) (y : B) → T p y → m ≤ length p) → {s : S} {ts : List Lexeme} {z : List A × B} → ManySpells P step T s ts z → m ≤ length ts
many_longer P step T m f (last y t e) = f _ y t
many_longer P step T m f (more x z front rest parts h k e) = let l = length_parts _ front rest parts in let i = many_longer P step T m f k in omega (arith, l, i)

pub longer : {A : Type 0} (g : Grammar A) (p : List Lexeme) (v : A) → Spells g p v → least g ≤ length p
longer (nothing x) p v h = omega arith
longer (token ks) p v h = let e = ap length h.0 in omega (arith, e)
longer (refused j ks) p v h = absurd h
longer (both f a b) p v h = let l = length_parts p h.2 h.3 h.4 in let i = longer a h.2 h.0 h.5 in let j = longer b h.3 h.1 h.6 in omega (arith, l, i, j)
longer (either a b) p v (inl h) = let i = longer a p v h in let l = lesser_left (least a) (least b) in omega (arith, i, l)
longer (either a b) p v (inr h) = let i = longer b p v h in let l = lesser_right (least a) (least b) in omega (arith, i, l)
longer (many f look a step s b) p v h = many_longer (λ s. Spells (a s)) step (Spells b) (least b) (λ p y t. longer b p y t) h.1
longer (given f a b) p v h = let l = length_parts p h.2 h.3 h.4 in let i = longer a h.2 h.0 h.5 in omega (arith, l, i)

-- The first tokens of pieces and an end: they begin a piece that is no shorter, or all begin the end.
pub many_opens : {S A : Type 0} (P : S → List Lexeme → A → Type 0) (step : S → A → S) (Q : S → List Lexeme → Type 0) (R : List Lexeme → Type 0) (s : S) → Laws (P s) (Q s) → (ts p l : List Lexeme) → ts ≡ p ++ l
    → ((x : A) (front : List Lexeme) → P s front x → length p ≤ length front) → ManyBegins P step Q R s ts → Q s p ⊎ R ts
many_opens P step Q R s a ts p l e long (piece h) = inl (a.closed p l (subst (Q s) e h))
many_opens P step Q R s a ts p l e long (end h) = inr h
many_opens P step Q R s a ts p l e long (later x front rest parts h m) = inl (opens (P s) (Q s) (λ x. ManyBegins P step Q R (step s x)) a ts p l e (λ x front rest parts h. long x front h) (inr (x, front, rest, parts, h, m)))

-- Two tokens in front tell, where no end begins with both.
module _ {S A B : Type 0} (a : S → Grammar A) (step : S → A → S) (b : Grammar B) (ks ms after : Kinds)
    (long : (s : S) (p : List Lexeme) (v : A) → Spells (a s) p v → 2 ≤ length p)
    (piece_one : (n : ℕ) (s : S) (t : Lexeme) → BeginsBy n (a s) (t ∷ []) → has ks t.kind ≡ true)
    (piece_two : (n : ℕ) (s : S) (t u : Lexeme) → BeginsBy n (a s) (t ∷ u ∷ []) → (has ks t.kind ≡ true) × (has ms u.kind ≡ true))
    (piece_on : (n : ℕ) (s : S) (t : Lexeme) → has ks t.kind ≡ true → BeginsBy n (a s) (t ∷ []))
    (end_on : (n : ℕ) (t : Lexeme) → has ks t.kind ≡ true → BeginsBy n b (t ∷ []))
    (end_two : (n : ℕ) (t u : Lexeme) (us : List Lexeme) → BeginsBy n b (t ∷ u ∷ us) → has ks t.kind ≡ true → has ms u.kind ≡ true → ⊥)
    (end_one : (t : Lexeme) (y : B) → Spells b (t ∷ []) y → ⊥)
    (end_none : (y : B) → Spells b [] y → disjoint ks after ≡ true) where
  abbrev look : List (List Kinds)
  look = (ks ∷ ms ∷ []) ∷ []

  lit_one : (t : Lexeme) (us : List Lexeme) → sees_one look (t ∷ us) ≡ true → has ks t.kind ≡ true
  lit_one t us h = (and_parts (has ks t.kind) (sees (ms ∷ []) us) h).0

  lit_two : (t u : Lexeme) (us : List Lexeme) → sees_one look (t ∷ u ∷ us) ≡ true → has ms u.kind ≡ true
  lit_two t u us h = (and_parts (has ms u.kind) true (and_parts (has ks t.kind) (has ms u.kind && true) h).1).0

  lit_by : (t u : Lexeme) (us : List Lexeme) → (has ks t.kind ≡ true) × (has ms u.kind ≡ true) → sees_one look (t ∷ u ∷ us) ≡ true
  lit_by t u us h = and_both (has ks t.kind) (has ms u.kind && true) h.0 (and_both (has ms u.kind) true h.1 refl)

  first_two : (n : ℕ) (s : S) (ts p l : List Lexeme) → ts ≡ p ++ l → length p ≤ 2 → PieceBegins n a step b s ts → BeginsBy n (a s) p
  first_two n s ts p l e short h = opens (Spells (a s)) (BeginsBy n (a s)) (λ x. ManyBegins (λ s. Spells (a s)) step (λ s. BeginsBy n (a s)) (BeginsBy n b) (step s x)) (laws n (a s)) ts p l e (λ x front rest parts h. let i = long s front x h in omega (arith, i, short)) h

  seen_at : (n : ℕ) (s : S) (ts p l : List Lexeme) → sees_one look ts ≡ true → ts ≡ p ++ l → BeginsBy n b p → PieceBegins n a step b s p
  seen_at n s ts [] l lit e h = inl (laws n (a s)).empty
  seen_at n s ts (t ∷ []) l lit e h = inl (piece_on n s t (lit_one t l (subst (λ (us : List Lexeme). sees_one look us ≡ true) e lit)))
  seen_at n s ts (t ∷ u ∷ us) l lit e h =
      let on = subst (λ (vs : List Lexeme). sees_one look vs ≡ true) e lit in
      absurd (end_two n t u us h (lit_one t (u ∷ (us ++ l)) on) (lit_two t u (us ++ l) on))

  unseen_at : (n : ℕ) (s : S) (ts p l : List Lexeme) → sees_one look ts ≡ false → ts ≡ p ++ l → PieceBegins n a step b s p → BeginsBy n b p
  unseen_at n s ts [] l dark e h = (laws n b).empty
  unseen_at n s ts (t ∷ []) l dark e h = end_on n t (piece_one n s t (first_two n s (t ∷ []) (t ∷ []) [] refl (omega arith) h))
  unseen_at n s ts (t ∷ u ∷ us) l dark e h =
      let off = subst (λ (vs : List Lexeme). sees_one look vs ≡ false) e dark in
      absurd (not_both (sees_one look (t ∷ u ∷ (us ++ l))) (lit_by t u (us ++ l) (piece_two n s t u (first_two n s (t ∷ u ∷ us) (t ∷ u ∷ []) us refl (omega arith) h))) off)

  piece_at : (s : S) (front rest : List Lexeme) (x : A) → Spells (a s) front x → sees_one look (front ++ rest) ≡ true
  piece_at s [] rest x h = absurd (let l = long s [] x h in omega (arith, l))
  piece_at s (t ∷ []) rest x h = absurd (let l = long s (t ∷ []) x h in omega (arith, l))
  piece_at s (t ∷ u ∷ us) rest x h = lit_by t u (us ++ rest) (piece_two 0 s t u ((laws 0 (a s)).closed (t ∷ u ∷ []) us ((laws 0 (a s)).begun (t ∷ u ∷ us) x h)))

  end_at : (p rest : List Lexeme) (y : B) → Spells b p y → Follow after rest → sees_one look (p ++ rest) ≡ false
  end_at [] [] y h f = refl
  end_at [] (t ∷ rest) y h f = off_when (sees_one look (t ∷ rest)) (λ lit. apart ks after t.kind (end_none y h) (lit_one t rest lit) f)
  end_at (t ∷ []) rest y h f = absurd (end_one t y h)
  end_at (t ∷ u ∷ us) rest y h f = off_when (sees_one look (t ∷ u ∷ (us ++ rest))) (λ lit. end_two 0 t u us ((laws 0 b).begun (t ∷ u ∷ us) y h) (lit_one t (u ∷ (us ++ rest)) lit) (lit_two t u (us ++ rest) lit))

  pub two_tell : Tells look a step b after
  two_tell = record {
    none = refl;
    seen = λ n s ts p l lit e h. seen_at n s ts p l lit e h;
    unseen = λ n s ts p l dark e h. unseen_at n s ts p l dark e h;
    at_piece = λ s p rest z h f. subst (λ (us : List Lexeme). sees_one look us ≡ true) (sym (ap (λ (us : List Lexeme). us ++ rest) h.4 ∙ append_assoc h.2 h.3 rest)) (piece_at s h.2 (h.3 ++ rest) h.0 h.5);
    at_end = λ p rest y h f. end_at p rest y h f;
  }

-- what begins a form behind no token
pub nothing_off : (n : ℕ) {A B C : Type 0} (f : A → B → C) (x : A) (g : Grammar B) (ts : List Lexeme) → BeginsBy n (both f (nothing x) g) ts → BeginsBy n g ts
nothing_off n f x g ts (inl e) = subst (BeginsBy n g) (sym e) (laws n g).empty
nothing_off n f x g ts (inr q) = subst (BeginsBy n g) (sym (q.3 ∙ ap (λ (us : List Lexeme). us ++ q.2) q.4.0)) q.5
