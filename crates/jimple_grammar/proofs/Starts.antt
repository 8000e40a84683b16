-- The kinds with which a form begins, and what may follow it.
use Rattle.std.proofs.Common.{◌≡◌, ◌⊎◌, ℕ, suc, Bool, true, false, cond, List, [], ◌∷◌, ◌++◌, sym, ◌∙◌, subst, refl, inl, inr}
use mathlib.Core.Bool.{◌&&◌, ◌||◌}
use Rattle.std.specs.Prelude.{◌==◌}
use Rattle.jimple_grammar.specs.declared.lexeme.Lexeme.{Lexeme}
use Rattle.jimple_words.specs.declared.kind.Kind.{Kind}
use Rattle.jimple_words.specs.Kind.{has, Kinds, number}
use Rattle.jimple_grammar.specs.Grammar.{Grammar, nothing, token, refused, both, either, many, given, ManySpells, last, more, ManyBegins, piece, end, later, Spells, BeginsBy}
use Rattle.jimple_grammar.specs.Reading.{may_be_empty, first}
use Rattle.jimple_grammar.proofs.Parts.{cut, Laws, then_laws}

pub or_left : (a b : Bool) → a ≡ true → (a || b) ≡ true
or_left true b e = refl
or_left false b e = absurd cc

pub or_right : (a b : Bool) → b ≡ true → (a || b) ≡ true
or_right true b e = refl
or_right false b e = e

pub and_both : (a b : Bool) → a ≡ true → b ≡ true → (a && b) ≡ true
and_both true b e h = h
and_both false b e h = absurd cc

pub and_parts : (a b : Bool) → (a && b) ≡ true → (a ≡ true) × (b ≡ true)
and_parts true b e = (refl, e)
and_parts false b e = absurd cc

pub not_both : (a : Bool) → a ≡ true → a ≡ false → ⊥
not_both true e h = cc
not_both false e h = cc

or_kept : (a b c : Bool) → (a || b) ≡ true → (b ≡ true → c ≡ true) → (a || c) ≡ true
or_kept true b c h f = refl
or_kept false b c h f = f h

pub has_left : (ks ms : Kinds) (k : Kind) → has ks k ≡ true → has (ks ++ ms) k ≡ true
has_left [] ms k h = absurd cc
has_left (j ∷ ks) ms k h = or_kept (number k == number j) (has ks k) (has (ks ++ ms) k) h (λ e. has_left ks ms k e)

pub has_right : (ks ms : Kinds) (k : Kind) → has ms k ≡ true → has (ks ++ ms) k ≡ true
has_right [] ms k h = h
has_right (j ∷ ks) ms k h = or_right (number k == number j) (has (ks ++ ms) k) (has_right ks ms k h)

abbrev pub disjoint : Kinds → Kinds → Bool
disjoint [] ms = true
disjoint (k ∷ ks) ms = cond (has ms k) false (disjoint ks ms)

-- what may come after a form before which that may stand
abbrev pub next : {A : Type 0} → Grammar A → Kinds → Kinds
next g after = cond (may_be_empty g) (first g ++ after) (first g)

abbrev pub Follow : Kinds → List Lexeme → Type 0
Follow after [] = Unit {0}
Follow after (t ∷ ts) = has after t.kind ≡ true

module _ {S A : Type 0} (P : S → List Lexeme → A → Type 0) (step : S → A → S) (Q : S → List Lexeme → Type 0) (R : List Lexeme → Type 0) (a : (s : S) → Laws (P s) (Q s)) where
  many_closed : ((xs ys : List Lexeme) → R (xs ++ ys) → R xs) → {s : S} {ts : List Lexeme} → ManyBegins P step Q R s ts → (xs ys : List Lexeme) → ts ≡ xs ++ ys → ManyBegins P step Q R s xs
  many_closed b {s} (piece p) xs ys e = piece ((a s).closed xs ys (subst (Q s) e p))
  many_closed b (end q) xs ys e = end (b xs ys (subst R e q))
  many_closed b {s} (later x front rest parts h m) xs ys e = elim (cut xs ys front rest (sym e ∙ parts)) [
    | inl c ↦ piece ((a s).closed xs c.0 (subst (Q s) c.1 ((a s).begun front x h)))
    | inr c ↦ later x front c.0 c.1 h (many_closed b m c.0 ys c.2)
  ]

  module _ {B : Type 0} (T : List Lexeme → B → Type 0) (b : Laws T R) where
    many_begun : {s : S} {ts : List Lexeme} {v : List A × B} → ManySpells P step T s ts v → ManyBegins P step Q R s ts
    many_begun (last y t e) = end (b.begun _ y t)
    many_begun (more x z front rest parts h m e) = later x front rest parts h (many_begun m)

    pub many_laws : (s : S) → Laws (ManySpells P step T s) (ManyBegins P step Q R s)
    many_laws s = record {
      empty = end b.empty;
      closed = λ xs ys h. many_closed b.closed h xs ys refl;
      begun = λ ts v h. many_begun h;
    }

pub laws : (n : ℕ) {A : Type 0} (g : Grammar A) → Laws (Spells g) (BeginsBy n g)
laws n (nothing x) = record { empty = refl; closed = λ xs ys e. nil_left xs ys e; begun = λ ts v h. h.0 } where
  nil_left : (xs ys : List Lexeme) → xs ++ ys ≡ [] → xs ≡ []
  nil_left [] ys e = refl
  nil_left (x ∷ xs) ys e = absurd (let bad : x ∷ (xs ++ ys) ≡ [] = e in cc)
laws n (token ks) = record { empty = inl refl; closed = λ xs ys h. short xs ys h; begun = λ ts v h. inr (v, h.0, h.1) } where
  short : (xs ys : List Lexeme) → (xs ++ ys ≡ []) ⊎ ((t : Lexeme) × (xs ++ ys ≡ t ∷ []) × (has ks t.kind ≡ true)) → (xs ≡ []) ⊎ ((t : Lexeme) × (xs ≡ t ∷ []) × (has ks t.kind ≡ true))
  short [] ys h = inl refl
  short (x ∷ xs) ys (inl e) = absurd (let bad : x ∷ (xs ++ ys) ≡ [] = e in cc)
  short (x ∷ []) ys (inr h) = inr (x, refl, let same : x ≡ h.0 = let e = h.1 in cc in subst (λ (t : Lexeme). has ks t.kind ≡ true) (sym same) h.2)
  short (x ∷ y ∷ xs) ys (inr h) = absurd (let bad : x ∷ y ∷ (xs ++ ys) ≡ h.0 ∷ [] = h.1 in cc)
laws n (refused j ks) = record { empty = inl refl; closed = λ xs ys h. short xs ys h; begun = λ ts v h. absurd h } where
  short : (xs ys : List Lexeme) → (xs ++ ys ≡ []) ⊎ ((t : Lexeme) × (xs ++ ys ≡ t ∷ []) × (has ks t.kind ≡ true) × (n ≡ suc j)) → (xs ≡ []) ⊎ ((t : Lexeme) × (xs ≡ t ∷ []) × (has ks t.kind ≡ true) × (n ≡ suc j))
  short [] ys h = inl refl
  short (x ∷ xs) ys (inl e) = absurd (let bad : x ∷ (xs ++ ys) ≡ [] = e in cc)
  short (x ∷ []) ys (inr h) = inr (x, refl, (let same : x ≡ h.0 = let e = h.1 in cc in subst (λ (t : Lexeme). has ks t.kind ≡ true) (sym same) h.2), h.3)
  short (x ∷ y ∷ xs) ys (inr h) = absurd (let bad : x ∷ y ∷ (xs ++ ys) ≡ h.0 ∷ [] = h.1 in cc)
laws n (both f a b) = then_laws (Spells a) (BeginsBy n a) (λ x. Spells b) (λ x. BeginsBy n b) f (laws n a) (λ x. laws n b)
laws n (either a b) = let l = laws n a in let r = laws n b in record {
  empty = inl l.empty;
  closed = λ xs ys h. elim h [ inl p ↦ inl (l.closed xs ys p) | inr q ↦ inr (r.closed xs ys q) ];
  begun = λ ts v h. elim h [ inl p ↦ inl (l.begun ts v p) | inr q ↦ inr (r.begun ts v q) ];
}
laws n (many f look a step s b) = let m = many_laws (λ s. Spells (a s)) step (λ s. BeginsBy n (a s)) (BeginsBy n b) (λ s. laws n (a s)) (Spells b) (laws n b) s in record {
  empty = m.empty;
  closed = m.closed;
  begun = λ ts v h. m.begun ts h.0 h.1;
}
laws n (given f a b) = then_laws (Spells a) (BeginsBy n a) (λ x. Spells (b x)) (λ x. BeginsBy n (b x)) f (laws n a) (λ x. laws n (b x))

pub nil_parts : (xs ys : List Lexeme) → [] ≡ xs ++ ys → (xs ≡ []) × (ys ≡ [])
nil_parts [] ys e = (refl, sym e)
nil_parts (x ∷ xs) ys e = absurd (let bad : [] ≡ x ∷ (xs ++ ys) = e in cc)

pub many_empty : {S A B : Type 0} (P : S → List Lexeme → A → Type 0) (step : S → A → S) (T : List Lexeme → B → Type 0) (m : Bool) → ((y : B) → T [] y → m ≡ true) → {s : S} {ts : List Lexeme} {z : List A × B} → ManySpells P step T s ts z → ts ≡ [] → m ≡ true
many_empty P step T m f (last y t e) n = f y (subst (λ (us : List Lexeme). T us y) n t)
many_empty P step T m f (more x z front rest parts h k e) n = many_empty P step T m f k (nil_parts front rest (sym n ∙ parts)).1

pub empty_when : {A : Type 0} (g : Grammar A) (v : A) → Spells g [] v → may_be_empty g ≡ true
empty_when (nothing x) v h = refl
empty_when (token ks) v h = absurd (let bad = h.0 in cc)
empty_when (refused j ks) v h = absurd h
empty_when (both f a b) v h =
    let e = nil_parts h.2 h.3 h.4 in
    and_both (may_be_empty a) (may_be_empty b) (empty_when a h.0 (subst (λ (us : List Lexeme). Spells a us h.0) e.0 h.5)) (empty_when b h.1 (subst (λ (us : List Lexeme). Spells b us h.1) e.1 h.6))
empty_when (either a b) v (inl h) = or_left (may_be_empty a) (may_be_empty b) (empty_when a v h)
empty_when (either a b) v (inr h) = or_right (may_be_empty a) (may_be_empty b) (empty_when b v h)
empty_when (many f look a step s b) v h = many_empty (λ s. Spells (a s)) step (Spells b) (may_be_empty b) (λ y t. empty_when b y t) h.1 refl
empty_when (given f a b) v h = empty_when a h.0 (subst (λ (us : List Lexeme). Spells a us h.0) (nil_parts h.2 h.3 h.4).0 h.5)
