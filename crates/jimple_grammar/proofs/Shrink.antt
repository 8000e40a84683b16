-- What is left is no longer than what was there.
use Rattle.std.proofs.Common.{◌≡◌, ◌⊎◌, ℕ, zero, suc, ◌<◌, ◌≤◌, Bool, true, false, cond, List, [], ◌∷◌, length, Ok, Err, subst, refl, inl, inr, arith}
use mathlib.Core.Bool.{◌&&◌, ◌||◌}
use Rattle.jimple_grammar.specs.declared.lexeme.Lexeme.{Lexeme}
use Rattle.jimple_words.specs.Kind.{has, Kinds}
use Rattle.jimple_grammar.specs.Grammar.{Look, Grammar, nothing, token, refused, both, either, many, given}
use Rattle.jimple_grammar.specs.Reading.{sees, sees_one, Read, ◌>>=◌, read_token, read_refused, may_be_empty, first, repeat, reading}

pub bind_ok : {A B : Type 0} (r : Read A) (f : A × List Lexeme → Read B) (y : B × List Lexeme) → (r >>= f) ≡ Ok y → (x : A × List Lexeme) × (r ≡ Ok x) × (f x ≡ Ok y)
bind_ok (Ok x) f y e = (x, refl, e)
bind_ok (Err d) f y e = absurd cc

pub ok_is : {A : Type 0} (x y : A × List Lexeme) → ◌≡◌ {A = Read A} (Ok x) (Ok y) → x ≡ y
ok_is x y e = cc

abbrev pub Shorter : Bool → List Lexeme → List Lexeme → Type 0
Shorter true ts rest = length rest ≤ length ts
Shorter false ts rest = length rest < length ts

shorter_le : (b : Bool) (ts rest : List Lexeme) → Shorter b ts rest → length rest ≤ length ts
shorter_le true ts rest h = h
shorter_le false ts rest h = omega (arith, h)

shorter_and : (a b : Bool) (ts us vs : List Lexeme) → Shorter a ts us → Shorter b us vs → Shorter (a && b) ts vs
shorter_and true true ts us vs h k = omega (arith, h, k)
shorter_and true false ts us vs h k = omega (arith, h, k)
shorter_and false true ts us vs h k = omega (arith, h, k)
shorter_and false false ts us vs h k = omega (arith, h, k)

shorter_first : (a b : Bool) (ts us vs : List Lexeme) → Shorter a ts us → Shorter b us vs → Shorter a ts vs
shorter_first true true ts us vs h k = omega (arith, h, k)
shorter_first true false ts us vs h k = omega (arith, h, k)
shorter_first false true ts us vs h k = omega (arith, h, k)
shorter_first false false ts us vs h k = omega (arith, h, k)

shorter_second : (a b : Bool) (ts us vs : List Lexeme) → Shorter a ts us → Shorter b us vs → Shorter b ts vs
shorter_second true true ts us vs h k = omega (arith, h, k)
shorter_second true false ts us vs h k = omega (arith, h, k)
shorter_second false true ts us vs h k = omega (arith, h, k)
shorter_second false false ts us vs h k = omega (arith, h, k)

shorter_left : (a b : Bool) (ts rest : List Lexeme) → Shorter a ts rest → Shorter (a || b) ts rest
shorter_left true b ts rest h = h
shorter_left false true ts rest h = omega (arith, h)
shorter_left false false ts rest h = h

shorter_right : (a b : Bool) (ts rest : List Lexeme) → Shorter b ts rest → Shorter (a || b) ts rest
shorter_right true true ts rest h = h
shorter_right true false ts rest h = omega (arith, h)
shorter_right false b ts rest h = h

pub chosen : {B : Type 0} (b : Bool) (x y z : B) → cond b x y ≡ z → ((b ≡ true) × (x ≡ z)) ⊎ ((b ≡ false) × (y ≡ z))
chosen true x y z e = inl (refl, e)
chosen false x y z e = inr (refl, e)

token_shrinks : (ks : Kinds) (ts : List Lexeme) (x : Lexeme × List Lexeme) → read_token ks ts ≡ Ok x → length x.1 < length ts
token_shrinks ks [] x e = absurd cc
token_shrinks ks (t ∷ ts) x e = elim (chosen (has ks t.kind) (Ok (t, ts)) (Err (t ∷ ts, 0)) (Ok x) e) [
  | inl h ↦ let s = ok_is (t, ts) x h.1 in subst (λ (p : Lexeme × List Lexeme). length p.1 < suc (length ts)) s (omega arith)
  | inr h ↦ let bad = h.1 in absurd cc
]

refused_fails : {A : Type 0} (j : ℕ) (ks : Kinds) (ts : List Lexeme) (x : A × List Lexeme) → read_refused {A = A} j ks ts ≡ Ok x → ⊥
refused_fails j ks [] x e = absurd cc
refused_fails {A} j ks (t ∷ ts) x e = elim (chosen {B = Read A} (has ks t.kind) (Err (t ∷ ts, suc j)) (Err (t ∷ ts, 0)) (Ok x) e) [
  | inl h ↦ let bad = h.1 in absurd cc
  | inr h ↦ let bad = h.1 in absurd cc
]

module _ {S A B : Type 0} (look : Look) (ra : S → List Lexeme → Read A) (step : S → A → S) (rb : List Lexeme → Read B) (m : Bool)
    (sa : (s : S) (ts : List Lexeme) (x : A × List Lexeme) → ra s ts ≡ Ok x → length x.1 ≤ length ts) (sb : (ts : List Lexeme) (x : B × List Lexeme) → rb ts ≡ Ok x → Shorter m ts x.1) where
  last_shrinks : (ts : List Lexeme) (x : (List A × B) × List Lexeme) → (rb ts >>= λ y. Ok (([], y.0), y.1)) ≡ Ok x → Shorter m ts x.1
  last_shrinks ts x e =
      let p = bind_ok (rb ts) (λ y. Ok (([], y.0), y.1)) x e in
      let s = ok_is (([], p.0.0), p.0.1) x p.2 in
      subst (λ (p : (List A × B) × List Lexeme). Shorter m ts p.1) s (sb ts p.0 p.1)

  repeat_shrinks : (n : ℕ) (t : S) (ts : List Lexeme) (x : (List A × B) × List Lexeme) → repeat n look ra step rb t ts ≡ Ok x → Shorter m ts x.1
  repeat_shrinks zero t ts x e = last_shrinks ts x e
  repeat_shrinks (suc n) t ts x e = elim (chosen (sees_one look ts) (ra t ts >>= λ x. repeat n look ra step rb (step t x.0) x.1 >>= λ y. Ok ((x.0 ∷ y.0.0, y.0.1), y.1)) (rb ts >>= λ y. Ok (([], y.0), y.1)) (Ok x) e) [
    | inl h ↦
        let p = bind_ok (ra t ts) (λ x. repeat n look ra step rb (step t x.0) x.1 >>= λ y. Ok ((x.0 ∷ y.0.0, y.0.1), y.1)) x h.1 in
        let q = bind_ok (repeat n look ra step rb (step t p.0.0) p.0.1) (λ y. Ok ((p.0.0 ∷ y.0.0, y.0.1), y.1)) x p.2 in
        let s = ok_is ((p.0.0 ∷ q.0.0.0, q.0.0.1), q.0.1) x q.2 in
        subst (λ (p : (List A × B) × List Lexeme). Shorter m ts p.1) s (shorter_second true m ts p.0.1 q.0.1 (sa t ts p.0 p.1) (repeat_shrinks n (step t p.0.0) p.0.1 q.0 q.1))
    | inr h ↦ last_shrinks ts x h.1
  ]

pub shrinks : {A : Type 0} (g : Grammar A) (ts : List Lexeme) (x : A × List Lexeme) → reading g ts ≡ Ok x → Shorter (may_be_empty g) ts x.1
shrinks {A} (nothing v) ts x e = let s = ok_is (v, ts) x e in subst (λ (p : A × List Lexeme). length p.1 ≤ length ts) s (omega arith)
shrinks (token ks) ts x e = token_shrinks ks ts x e
shrinks (refused j ks) ts x e = absurd (refused_fails j ks ts x e)
shrinks {A} (both f a b) ts x e =
    let p = bind_ok (reading a ts) (λ x. reading b x.1 >>= λ y. Ok (f x.0 y.0, y.1)) x e in
    let q = bind_ok (reading b p.0.1) (λ y. Ok (f p.0.0 y.0, y.1)) x p.2 in
    let s = ok_is (f p.0.0 q.0.0, q.0.1) x q.2 in
    subst (λ (p : A × List Lexeme). Shorter (may_be_empty a && may_be_empty b) ts p.1) s (shorter_and (may_be_empty a) (may_be_empty b) ts p.0.1 q.0.1 (shrinks a ts p.0 p.1) (shrinks b p.0.1 q.0 q.1))
shrinks (either a b) ts x e = elim (chosen (sees (first a ∷ []) ts) (reading a ts) (reading b ts) (Ok x) e) [
  | inl h ↦ shorter_left (may_be_empty a) (may_be_empty b) ts x.1 (shrinks a ts x h.1)
  | inr h ↦ shorter_right (may_be_empty a) (may_be_empty b) ts x.1 (shrinks b ts x h.1)
]
shrinks {A} (many f look a step t b) ts x e =
    let p = bind_ok (repeat (length ts) look (λ s. reading (a s)) step (reading b) t ts) (λ z. Ok (f z.0.0 z.0.1, z.1)) x e in
    let s = ok_is (f p.0.0.0 p.0.0.1, p.0.1) x p.2 in
    subst (λ (p : A × List Lexeme). Shorter (may_be_empty b) ts p.1) s
    (repeat_shrinks look (λ s. reading (a s)) step (reading b) (may_be_empty b) (λ s ts x e. shorter_le (may_be_empty (a s)) ts x.1 (shrinks (a s) ts x e)) (λ ts x e. shrinks b ts x e) (length ts) t ts p.0 p.1)
shrinks {A} (given f a b) ts x e =
    let p = bind_ok (reading a ts) (λ x. reading (b x.0) x.1 >>= λ y. Ok (f x.0 y.0, y.1)) x e in
    let q = bind_ok (reading (b p.0.0) p.0.1) (λ y. Ok (f p.0.0 y.0, y.1)) x p.2 in
    let s = ok_is (f p.0.0 q.0.0, q.0.1) x q.2 in
    subst (λ (p : A × List Lexeme). Shorter (may_be_empty a) ts p.1) s (shorter_first (may_be_empty a) (may_be_empty (b p.0.0)) ts p.0.1 q.0.1 (shrinks a ts p.0 p.1) (shrinks (b p.0.0) p.0.1 q.0 q.1))
