-- What holds of each tree that spells a form, part by part. `P` holds of the tokens, of which there are at most `n`.
use Rattle.std.proofs.Common.{◌≡◌, ℕ, ◌+◌, ◌<◌, ◌≤◌, true, false, List, [], ◌∷◌, ◌++◌, length, All, sym, ◌∙◌, ap, subst, inl, inr, arith, length-append}
use Rattle.std.proofs.lemmas.List.Elements.{All-nil, All-cons, All-head, All-tail}
use Rattle.jimple_grammar.specs.declared.lexeme.Lexeme.{Lexeme}
use Rattle.jimple_words.specs.Kind.{Kinds}
use Rattle.jimple_grammar.specs.Grammar.{Look, Grammar, nothing, token, refused, both, either, many, plain, given, ManySpells, last, more, Spells, ◌<*>◌, ◌<*◌, ◌*>◌}
use Rattle.jimple_grammar.specs.Reading.{may_be_empty}
use Rattle.jimple_grammar.specs.Fits.{Is}
use Rattle.jimple_grammar.proofs.Starts.{empty_when, not_both}
use Rattle.jimple_grammar.proofs.Opens.{subset, in_subset}

All-left : (P : Lexeme → Type 0) (xs ys : List Lexeme) → All P (xs ++ ys) → All P xs
All-left P [] ys h = All-nil P
All-left P (x ∷ xs) ys h = All-cons P x xs (All-head P x (xs ++ ys) h) (All-left P xs ys (All-tail P x (xs ++ ys) h))

All-right : (P : Lexeme → Type 0) (xs ys : List Lexeme) → All P (xs ++ ys) → All P ys
All-right P [] ys h = h
All-right P (x ∷ xs) ys h = All-right P xs ys (All-tail P x (xs ++ ys) h)

-- two parts have the tokens of the whole
record Parts (P : Lexeme → Type 0) (n : ℕ) (front rest : List Lexeme) : Type 0 where
  front_all : All P front
  rest_all : All P rest
  front_long : length front ≤ n
  rest_long : length rest ≤ n

parts_of : (P : Lexeme → Type 0) (n : ℕ) (ts front rest : List Lexeme) → ts ≡ front ++ rest → All P ts → length ts ≤ n → Parts P n front rest
parts_of P n ts front rest e all le =
    let whole = subst (All P) e all in
    let sum : length ts ≡ length front + length rest = ap length e ∙ length-append front rest in
    record { front_all = All-left P front rest whole; rest_all = All-right P front rest whole; front_long = omega arith; rest_long = omega arith }

-- a form that can't be empty takes a token
pub some_long : {A : Type 0} (g : Grammar A) → may_be_empty g ≡ false → (ts : List Lexeme) (v : A) → Spells g ts v → 0 < length ts
some_long g m [] v h = absurd (not_both (may_be_empty g) (empty_when g v h) m)
some_long g m (t ∷ ts) v h = omega arith

-- the tree of the form is of that set
pub record Yields {A : Type 0} (P : Lexeme → Type 0) (n : ℕ) (g : Grammar A) (Q : A → Type 0) : Type 0 where
  pub fits : (ts : List Lexeme) (v : A) → All P ts → length ts ≤ n → Spells g ts v → Q v

module _ {P : Lexeme → Type 0} {n : ℕ} where
  pub anything : {A : Type 0} {g : Grammar A} → Yields P n g (λ x. Unit {0})
  anything = record { fits = λ ts v all le h. tt }

  pub of_nothing : {A : Type 0} {Q : A → Type 0} {x : A} → Q x → Yields P n (nothing x) Q
  of_nothing {Q} q = record { fits = λ ts v all le h. subst Q (sym h.1) q }

  pub of_token : (ks : Kinds) → Yields P n (token ks) (Is P n ks)
  of_token ks = record { fits = λ ts v all le h. (All-head P v [] (subst (All P) h.0 all), h.1) }

  pub of_refused : {A : Type 0} {Q : A → Type 0} (j : ℕ) (ks : Kinds) → Yields P n (refused {A = A} j ks) Q
  of_refused j ks = record { fits = λ ts v all le h. absurd h }

  pub of_either : {A : Type 0} {Q : A → Type 0} {a b : Grammar A} → Yields P n a Q → Yields P n b Q → Yields P n (either a b) Q
  of_either ya yb = record { fits = λ ts v all le h. elim h [ inl s ↦ ya.fits ts v all le s | inr s ↦ yb.fits ts v all le s ] }

  pub of_both : {A B C : Type 0} {f : A → B → C} {a : Grammar A} {b : Grammar B} {QA : A → Type 0} {QB : B → Type 0} {QC : C → Type 0}
      → Yields P n a QA → Yields P n b QB → ((x : A) (y : B) → QA x → QB y → QC (f x y)) → Yields P n (both f a b) QC
  of_both {QC} ya yb q = record {
    fits = λ ts v all le h.
        let p = parts_of P n ts h.2 h.3 h.4 all le in
        subst QC (sym h.7) (q h.0 h.1 (ya.fits h.2 h.0 p.front_all p.front_long h.5) (yb.fits h.3 h.1 p.rest_all p.rest_long h.6));
  }

  pub of_given : {A B C : Type 0} {f : A → B → C} {a : Grammar A} {b : A → Grammar B} {QA : A → Type 0} {QB : A → B → Type 0} {QC : C → Type 0}
      → Yields P n a QA → ((x : A) → QA x → Yields P n (b x) (QB x)) → ((x : A) (y : B) → QA x → QB x y → QC (f x y)) → Yields P n (given f a b) QC
  of_given {QC} ya yb q = record {
    fits = λ ts v all le h.
        let p = parts_of P n ts h.2 h.3 h.4 all le in
        let k = ya.fits h.2 h.0 p.front_all p.front_long h.5 in
        subst QC (sym h.7) (q h.0 h.1 k ((yb h.0 k).fits h.3 h.1 p.rest_all p.rest_long h.6));
  }

  pub behind : {A B : Type 0} {a : Grammar A} {b : A → Grammar B} {QA : A → Type 0} {QB : B → Type 0} → Yields P n a QA → ((x : A) → QA x → Yields P n (b x) QB) → Yields P n (given (λ x y. y) a b) QB
  behind {QB} ya yb = of_given {QB = λ x. QB} ya yb (λ x y h k. k)

  -- the part on the right first, since the one on the left holds of what takes it
  pub app : {A B : Type 0} {a : Grammar (A → B)} {b : Grammar A} {QA : A → Type 0} {QB : B → Type 0}
      → Yields P n b QA → Yields P n a (λ f. (x : A) → QA x → QB (f x)) → Yields P n (a <*> b) QB
  app yb ya = of_both ya yb (λ f x qf qx. qf x qx)

  -- a part whose tree isn't kept
  pub keep : {A B : Type 0} {a : Grammar A} {b : Grammar B} {Q : A → Type 0} → Yields P n a Q → Yields P n (a <* b) Q
  keep {Q} ya = record { fits = λ ts v all le h. let p = parts_of P n ts h.2 h.3 h.4 all le in subst Q (sym h.7) (ya.fits h.2 h.0 p.front_all p.front_long h.5) }

  pub skip : {A B : Type 0} {a : Grammar A} {b : Grammar B} {Q : B → Type 0} → Yields P n b Q → Yields P n (a *> b) Q
  skip {Q} yb = record { fits = λ ts v all le h. let p = parts_of P n ts h.2 h.3 h.4 all le in subst Q (sym h.7) (yb.fits h.3 h.1 p.rest_all p.rest_long h.6) }

  pub weaker : {A : Type 0} {g : Grammar A} {Q R : A → Type 0} → Yields P n g Q → ((x : A) → Q x → R x) → Yields P n g R
  weaker y w = record { fits = λ ts v all le h. w v (y.fits ts v all le h) }

  module _ {S A B : Type 0} (a : S → Grammar A) (step : S → A → S) (b : Grammar B) (QA : S → A → Type 0) (R : S → List A → Type 0) (QB : B → Type 0)
      (none : (s : S) → R s []) (one : (s : S) (x : A) (xs : List A) → QA s x → R (step s x) xs → R s (x ∷ xs)) (ya : (s : S) → Yields P n (a s) (QA s)) (yb : Yields P n b QB) where
    pieces : {s : S} {ts : List Lexeme} {z : List A × B} → ManySpells (λ s. Spells (a s)) step (Spells b) s ts z → All P ts → length ts ≤ n → R s z.0 × QB z.1
    pieces {s} {ts} (last y h e) all le = subst (λ (z : List A × B). R s z.0 × QB z.1) (sym e) (none s, yb.fits ts y all le h)
    pieces {s} {ts} (more x z front rest e h m k) all le =
        let p = parts_of P n ts front rest e all le in
        let i = pieces m p.rest_all p.rest_long in
        subst (λ (z : List A × B). R s z.0 × QB z.1) (sym k) (one s x z.0 ((ya s).fits front x p.front_all p.front_long h) i.0, i.1)

    pub of_many : {C : Type 0} {f : List A → B → C} {look : Look} {s : S} {QC : C → Type 0} → ((xs : List A) (y : B) → R s xs → QB y → QC (f xs y)) → Yields P n (many f look a step s b) QC
    of_many {QC} q = record { fits = λ ts v all le h. let i = pieces h.1 all le in subst QC (sym h.2) (q h.0.0 h.0.1 i.0 i.1) }

  pub of_plain : {A B C : Type 0} {f : List A → B → C} {look : Look} {a : Grammar A} {b : Grammar B} {QA : A → Type 0} {QB : B → Type 0} {QC : C → Type 0}
      → Yields P n a QA → Yields P n b QB → ((xs : List A) (y : B) → All QA xs → QB y → QC (f xs y)) → Yields P n (plain f look a b) QC
  of_plain {a} {b} {QA} {QB} ya yb q = of_many {S = Unit {0}} (λ s. a) (λ s x. s) b (λ s. QA) (λ s xs. All QA xs) QB (λ s. All-nil QA) (λ s x xs h i. All-cons QA x xs h i) (λ s. ya) yb q

  -- behind a part that takes a token
  pub app_after : {A B : Type 0} {a : Grammar (A → B)} {b : Grammar A} {QA : A → Type 0} {QB : B → Type 0}
      → may_be_empty a ≡ false → ((m : ℕ) → m < n → Yields P m b QA) → Yields P n a (λ f. (x : A) → QA x → QB (f x)) → Yields P n (a <*> b) QB
  app_after {a} {QB} some yb ya = record {
    fits = λ ts v all le h.
        let p = parts_of P n ts h.2 h.3 h.4 all le in
        let sum : length ts ≡ length h.2 + length h.3 = ap length h.4 ∙ length-append h.2 h.3 in
        let front = some_long a some h.2 h.0 h.5 in
        subst QB (sym h.7) (ya.fits h.2 h.0 p.front_all p.front_long h.5 h.1 ((yb (length h.3) (omega (arith, sum, front, le))).fits h.3 h.1 p.rest_all (omega arith) h.6));
  }

-- a larger set of kinds
pub wider : (P : Lexeme → Type 0) (n : ℕ) (ks ms : Kinds) → subset ks ms ≡ true → (t : Lexeme) → Is P n ks t → Is P n ms t
wider P n ks ms s t h = (h.0, in_subset ks ms t.kind s h.1)

-- each piece takes a token, and the end as many as it counts
module _ {S A B : Type 0} (a : S → Grammar A) (step : S → A → S) (b : Grammar B) (count : B → ℕ) (some : (s : S) → may_be_empty (a s) ≡ false) (end : (ts : List Lexeme) (y : B) → Spells b ts y → count y ≤ length ts) where
  pub many_count : {s : S} {ts : List Lexeme} {z : List A × B} → ManySpells (λ s. Spells (a s)) step (Spells b) s ts z → length z.0 + count z.1 ≤ length ts
  many_count {ts} (last y h e) = subst (λ (z : List A × B). length z.0 + count z.1 ≤ length ts) (sym e) (let k = end ts y h in omega (arith, k))
  many_count {s} {ts} (more x z front rest e h m k) =
      let sum : length ts ≡ length front + length rest = ap length e ∙ length-append front rest in
      let one = some_long (a s) (some s) front x h in
      let i = many_count m in
      subst (λ (z : List A × B). length z.0 + count z.1 ≤ length ts) (sym k) (omega (arith, sum, one, i))
