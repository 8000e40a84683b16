-- Forms within forms: whatever spells the one spells the other, with the same tree, and whatever begins the one begins the other.
use Rattle.std.proofs.Common.{ℕ, List, sym, subst, inl, inr}
use Rattle.jimple_grammar.specs.declared.lexeme.Lexeme.{Lexeme}
use Rattle.jimple_words.specs.Kind.{Kinds}
use Rattle.jimple_grammar.specs.Grammar.{Look, Grammar, refused, both, either, many, given, ManySpells, last, more, ManyBegins, piece, end, later, Spells, Begins}
use Rattle.jimple_grammar.specs.AsWritten.{Same}
use Rattle.jimple_grammar.proofs.Starts.{laws}

pub record Within {A : Type 0} (a b : Grammar A) : Type 0 where
  pub spells : (ts : List Lexeme) (v : A) → Spells a ts v → Spells b ts v
  pub begins : (ts : List Lexeme) → Begins a ts → Begins b ts

-- each within the other
abbrev pub Alike : {A : Type 0} → Grammar A → Grammar A → Type 0
Alike a b = Within a b × Within b a

pub same : {A : Type 0} {a b : Grammar A} → Alike a b → Same a b
same w = record { spells = λ ts v. (w.0.spells ts v, w.1.spells ts v); begins = λ ts. (w.0.begins ts, w.1.begins ts) }

pub itself : {A : Type 0} {a : Grammar A} → Within a a
itself = record { spells = λ ts v h. h; begins = λ ts h. h }

pub through : {A : Type 0} {a b c : Grammar A} → Within a b → Within b c → Within a c
through w z = record { spells = λ ts v h. z.spells ts v (w.spells ts v h); begins = λ ts h. z.begins ts (w.begins ts h) }

pub no_change : {A : Type 0} {a : Grammar A} → Alike a a
no_change = (itself, itself)

pub turned : {A : Type 0} {a b : Grammar A} → Alike a b → Alike b a
turned w = (w.1, w.0)

infixl 4 ◌then◌
pub ◌then◌ : {A : Type 0} {a b c : Grammar A} → Alike a b → Alike b c → Alike a c
w then z = (through w.0 z.0, through z.1 w.1)

-- Choices.
pub left_of : {A : Type 0} {a b c : Grammar A} → Within a b → Within a (either b c)
left_of w = record { spells = λ ts v h. inl (w.spells ts v h); begins = λ ts h. inl (w.begins ts h) }

pub right_of : {A : Type 0} {a b c : Grammar A} → Within a c → Within a (either b c)
right_of w = record { spells = λ ts v h. inr (w.spells ts v h); begins = λ ts h. inr (w.begins ts h) }

pub one_of : {A : Type 0} {a b c : Grammar A} → Within a c → Within b c → Within (either a b) c
one_of w z = record {
  spells = λ ts v h. elim h [ inl p ↦ w.spells ts v p | inr q ↦ z.spells ts v q ];
  begins = λ ts h. elim h [ inl p ↦ w.begins ts p | inr q ↦ z.begins ts q ];
}

pub front_in : {A : Type 0} {a b c : Grammar A} → Within (either a b) c → Within a c
front_in w = record { spells = λ ts v h. w.spells ts v (inl h); begins = λ ts h. w.begins ts (inl h) }

pub rest_in : {A : Type 0} {a b c : Grammar A} → Within (either a b) c → Within b c
rest_in w = record { spells = λ ts v h. w.spells ts v (inr h); begins = λ ts h. w.begins ts (inr h) }

pub choice : {A : Type 0} {a b c d : Grammar A} → Alike a b → Alike c d → Alike (either a c) (either b d)
choice w z = (one_of (left_of w.0) (right_of z.0), one_of (left_of w.1) (right_of z.1))

-- a token that is refused spells nothing, and begins nothing but for the empty front
refused_in : {A : Type 0} (j : ℕ) (ks : Kinds) (a : Grammar A) → Within (refused j ks) a
refused_in {A} j ks a = record {
  spells = λ ts v h. absurd h;
  begins = λ ts h. elim h [
    | inl e ↦ subst (λ (us : List Lexeme). Begins a us) (sym e) (laws 0 a).empty
    | inr q ↦ absurd (let bad = q.3 in cc)
  ];
}

pub without_refused : {A : Type 0} {j : ℕ} {ks : Kinds} {a : Grammar A} → Alike (either (refused j ks) a) a
without_refused {j} {ks} {a} = (one_of (refused_in j ks a) itself, right_of itself)

pub without_last_refused : {A : Type 0} {j : ℕ} {ks : Kinds} {a : Grammar A} → Alike (either a (refused j ks)) a
without_last_refused {j} {ks} {a} = (one_of itself (refused_in j ks a), left_of itself)

-- Parts in a row.
both_in : {A B C : Type 0} (f : A → B → C) {a b : Grammar A} {c d : Grammar B} → Within a b → Within c d → Within (both f a c) (both f b d)
both_in f w z = record {
  spells = λ ts v h. (h.0, h.1, h.2, h.3, h.4, w.spells h.2 h.0 h.5, z.spells h.3 h.1 h.6, h.7);
  begins = λ ts h. elim h [ inl p ↦ inl (w.begins ts p) | inr q ↦ inr (q.0, q.1, q.2, q.3, w.spells q.1 q.0 q.4, z.begins q.2 q.5) ];
}

given_in : {A B C : Type 0} (f : A → B → C) {a b : Grammar A} {c d : A → Grammar B} → Within a b → ((x : A) → Within (c x) (d x)) → Within (given f a c) (given f b d)
given_in f w z = record {
  spells = λ ts v h. (h.0, h.1, h.2, h.3, h.4, w.spells h.2 h.0 h.5, (z h.0).spells h.3 h.1 h.6, h.7);
  begins = λ ts h. elim h [ inl p ↦ inl (w.begins ts p) | inr q ↦ inr (q.0, q.1, q.2, q.3, w.spells q.1 q.0 q.4, (z q.0).begins q.2 q.5) ];
}

pub row : {A B C : Type 0} {f : A → B → C} {a b : Grammar A} {c d : Grammar B} → Alike a b → Alike c d → Alike (both f a c) (both f b d)
row {f} w z = (both_in f w.0 z.0, both_in f w.1 z.1)

pub chain : {A B C : Type 0} {f : A → B → C} {a b : Grammar A} {c d : A → Grammar B} → Alike a b → ((x : A) → Alike (c x) (d x)) → Alike (given f a c) (given f b d)
chain {f} w z = (given_in f w.0 (λ x. (z x).0), given_in f w.1 (λ x. (z x).1))

-- Repeated forms.
module _ {S A B : Type 0} (P Q : S → List Lexeme → A → Type 0) (step : S → A → S) (T U : List Lexeme → B → Type 0)
    (p : (s : S) (ts : List Lexeme) (x : A) → P s ts x → Q s ts x) (t : (ts : List Lexeme) (y : B) → T ts y → U ts y) where
  pub many_spells : {s : S} {ts : List Lexeme} {v : List A × B} → ManySpells P step T s ts v → ManySpells Q step U s ts v
  many_spells (last y h e) = last y (t _ y h) e
  many_spells (more x z front rest parts h m e) = more x z front rest parts (p _ front x h) (many_spells m) e

module _ {S A : Type 0} (P Q : S → List Lexeme → A → Type 0) (step : S → A → S) (F G : S → List Lexeme → Type 0) (T U : List Lexeme → Type 0)
    (p : (s : S) (ts : List Lexeme) (x : A) → P s ts x → Q s ts x) (f : (s : S) (ts : List Lexeme) → F s ts → G s ts) (t : (ts : List Lexeme) → T ts → U ts) where
  many_begins : {s : S} {ts : List Lexeme} → ManyBegins P step F T s ts → ManyBegins Q step G U s ts
  many_begins (piece h) = piece (f _ _ h)
  many_begins (end h) = end (t _ h)
  many_begins (later x front rest parts h m) = later x front rest parts (p _ front x h) (many_begins m)

pub many_in : {S A B C : Type 0} (f : List A → B → C) (look : Look) {a b : S → Grammar A} (step : S → A → S) (s : S) {c d : Grammar B} → ((s : S) → Within (a s) (b s)) → Within c d → Within (many f look a step s c) (many f look b step s d)
many_in f look {a} {b} step s {c} {d} w z = record {
  spells = λ ts v h. (h.0, many_spells (λ s. Spells (a s)) (λ s. Spells (b s)) step (Spells c) (Spells d) (λ s. (w s).spells) z.spells h.1, h.2);
  begins = λ ts h. many_begins (λ s. Spells (a s)) (λ s. Spells (b s)) step (λ s. Begins (a s)) (λ s. Begins (b s)) (Begins c) (Begins d) (λ s. (w s).spells) (λ s. (w s).begins) z.begins h;
}

pub repeated : {S A B C : Type 0} {f : List A → B → C} {look : Look} {a b : S → Grammar A} {step : S → A → S} {s : S} {c d : Grammar B} → ((s : S) → Alike (a s) (b s)) → Alike c d → Alike (many f look a step s c) (many f look b step s d)
repeated {f} {look} {step} {s} w z = (many_in f look step s (λ s. (w s).0) z.0, many_in f look step s (λ s. (w s).1) z.1)
