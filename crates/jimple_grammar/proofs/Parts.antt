-- Parts in a row, by their relations alone.
use Rattle.std.proofs.Common.{◌≡◌, ◌⊎◌, ℕ, suc, List, [], ◌∷◌, ◌++◌, Ok, Err, sym, ◌∙◌, ap, subst, refl, inl, inr, append_assoc, append-nil}
use Rattle.std.proofs.lemmas.List.{append_cancel_right}
use Rattle.jimple_grammar.specs.declared.lexeme.Lexeme.{Lexeme}
use Rattle.jimple_grammar.specs.Grammar.{Then, ThenBegins}
use Rattle.jimple_grammar.specs.Reading.{Read, ◌>>=◌}
use Rattle.jimple_grammar.proofs.Shrink.{ok_is}

-- two ways to cut one list
abbrev pub Cuts : List Lexeme → List Lexeme → List Lexeme → List Lexeme → Type 0
Cuts xs ys us vs = ((m : List Lexeme) × (us ≡ xs ++ m) × (ys ≡ m ++ vs)) ⊎ ((m : List Lexeme) × (xs ≡ us ++ m) × (vs ≡ m ++ ys))

pub cut : (xs ys us vs : List Lexeme) → xs ++ ys ≡ us ++ vs → Cuts xs ys us vs
cut [] ys us vs e = inl (us, refl, e)
cut (x ∷ xs) ys [] vs e = inr (x ∷ xs, refl, sym e)
cut (x ∷ xs) ys (u ∷ us) vs e =
    let h : x ≡ u = cc in
    let t : xs ++ ys ≡ us ++ vs = cc in
    elim (cut xs ys us vs t) [
      | inl m ↦ inl (m.0, rw (h, m.1) refl, m.2)
      | inr m ↦ inr (m.0, rw (h, m.1) refl, m.2)
    ]

-- what every form keeps
pub record Laws {A : Type 0} (S : List Lexeme → A → Type 0) (P : List Lexeme → Type 0) : Type 0 where
  pub empty : P []
  pub closed : (xs ys : List Lexeme) → P (xs ++ ys) → P xs
  pub begun : (ts : List Lexeme) (v : A) → S ts v → P ts

pub then_laws : {A B C : Type 0} (S : List Lexeme → A → Type 0) (P : List Lexeme → Type 0) (T : A → List Lexeme → B → Type 0) (Q : A → List Lexeme → Type 0) (f : A → B → C)
    → Laws S P → ((x : A) → Laws (T x) (Q x)) → Laws (Then S T f) (ThenBegins S P Q)
then_laws S P T Q f a b = record {
  empty = inl a.empty;
  closed = λ xs ys h. elim h [
    | inl p ↦ inl (a.closed xs ys p)
    | inr q ↦ elim (cut xs ys q.1 q.2 q.3) [
      | inl m ↦ inl (a.closed xs m.0 (subst P m.1 (a.begun q.1 q.0 q.4)))
      | inr m ↦ inr (q.0, q.1, m.0, m.1, q.4, (b q.0).closed m.0 ys (subst (Q q.0) m.2 q.5))
    ]
  ];
  begun = λ ts v h. inr (h.0, h.2, h.3, h.4, h.5, (b h.0).begun h.3 h.1 h.6);
}

-- the next token doesn't go on
abbrev pub Off : (List Lexeme → Type 0) → List Lexeme → List Lexeme → Type 0
Off P front [] = Unit {0}
Off P front (t ∷ left) = P (front ++ t ∷ []) → ⊥

-- the next token goes on
abbrev pub On : (List Lexeme → Type 0) → List Lexeme → List Lexeme → Type 0
On P front [] = ⊥
On P front (t ∷ left) = P (front ++ t ∷ [])

pub record Good {A : Type 0} (S : List Lexeme → A → Type 0) (P : ℕ → List Lexeme → Type 0) (ts : List Lexeme) (v : A) (left : List Lexeme) : Type 0 where
  pub front : List Lexeme
  pub parts : ts ≡ front ++ left
  pub spelled : S front v
  pub off : (k : ℕ) → Off (P k) front left

-- why it stops there
pub record Why (P : ℕ → List Lexeme → Type 0) (front left : List Lexeme) (why : ℕ) : Type 0 where
  pub only : (k : ℕ) → On (P (suc k)) front left → why ≡ suc k
  pub so : (k : ℕ) → why ≡ suc k → On (P (suc k)) front left

pub record Bad {A : Type 0} (S : List Lexeme → A → Type 0) (P : ℕ → List Lexeme → Type 0) (ts : List Lexeme) (left : List Lexeme) (why : ℕ) : Type 0 where
  pub front : List Lexeme
  pub parts : ts ≡ front ++ left
  pub begun : P 0 front
  pub off : Off (P 0) front left
  pub open_end : left ≡ [] → (v : A) → S front v → ⊥
  pub reason : Why P front left why

abbrev pub Exact : {A : Type 0} → (List Lexeme → A → Type 0) → (ℕ → List Lexeme → Type 0) → List Lexeme → Read A → Type 0
Exact S P ts (Ok x) = Good S P ts x.0 x.1
Exact S P ts (Err e) = Bad S P ts e.0 e.1

-- what comes next may begin the form
abbrev pub Meets : (List Lexeme → Type 0) → List Lexeme → Type 0
Meets Q [] = Unit {0}
Meets Q (t ∷ ts) = Q (t ∷ [])

meets_front : {B : Type 0} (T : List Lexeme → B → Type 0) (Q : List Lexeme → Type 0) → Laws T Q → (ys l : List Lexeme) → Q ys → (ys ≡ [] → l ≡ []) → Meets Q (ys ++ l)
meets_front T Q b [] [] q n = tt
meets_front T Q b [] (t ∷ l) q n = absurd (let bad = n refl in cc)
meets_front T Q b (y ∷ ys) l q n = b.closed (y ∷ []) ys q

-- what a reader of the first part reads again, where the second part may follow
abbrev pub Again : {A : Type 0} → (List Lexeme → A → Type 0) → (ℕ → A → List Lexeme → Type 0) → List Lexeme → Read A → Type 0
Again {A} S Q ts r = (k : ℕ) (x : A) (xs rest : List Lexeme) → ts ≡ xs ++ rest → S xs x → Meets (Q k x) rest → r ≡ Ok (x, rest)

module _ {A B C : Type 0} (S : List Lexeme → A → Type 0) (P : ℕ → List Lexeme → Type 0) (T : A → List Lexeme → B → Type 0) (Q : ℕ → A → List Lexeme → Type 0) (f : A → B → C)
    (a : (k : ℕ) → Laws S (P k)) (b : (k : ℕ) (x : A) → Laws (T x) (Q k x)) (ts : List Lexeme) where
  abbrev R : ℕ → List Lexeme → Type 0
  R k = ThenBegins S (P k) (Q k)

  meets : (k : ℕ) (x : A) (ys : List Lexeme) → Q k x ys → Meets (Q k x) ys
  meets k x [] q = tt
  meets k x (y ∷ ys) q = (b k x).closed (y ∷ []) ys q

  -- the first part stops
  pub first_stops : (left : List Lexeme) (why : ℕ) → Bad S P ts left why → Again S Q ts (Err (left, why)) → Bad (Then S T f) R ts left why
  first_stops left why bad again = record {
    front = bad.front;
    parts = bad.parts;
    begun = inl bad.begun;
    off = off_of left bad.parts bad.off;
    open_end = λ e v h.
        let whole : ts ≡ h.2 ++ h.3 = bad.parts ∙ ap (λ (l : List Lexeme). bad.front ++ l) e ∙ append-nil bad.front ∙ h.4 in
        let no = again 0 h.0 h.2 h.3 whole h.5 (meets 0 h.0 h.3 ((b 0 h.0).begun h.3 h.1 h.6)) in absurd cc;
    reason = record { only = λ k o. bad.reason.only k (on_first k left bad.parts bad.off o); so = λ k e. on_both k left (bad.reason.so k e) };
  } where
    beyond : (k : ℕ) (t : Lexeme) (l : List Lexeme) → ts ≡ bad.front ++ t ∷ l → (P 0 (bad.front ++ t ∷ []) → ⊥) → (x : A) (xs ys : List Lexeme) → bad.front ++ t ∷ [] ≡ xs ++ ys → S xs x → Q k x ys → ⊥
    beyond k t l parts off x xs [] e s q = off (subst (P 0) (sym e) (subst (P 0) (sym (append-nil xs)) ((a 0).begun xs x s)))
    beyond k t l parts off x xs (y ∷ ys) e s q =
        let whole : ts ≡ xs ++ ((y ∷ ys) ++ l) = parts ∙ sym (append_assoc bad.front (t ∷ []) l) ∙ ap (λ (us : List Lexeme). us ++ l) e ∙ append_assoc xs (y ∷ ys) l in
        let no = again k x xs ((y ∷ ys) ++ l) whole s ((b k x).closed (y ∷ []) ys q) in absurd cc

    off_of : (l : List Lexeme) → ts ≡ bad.front ++ l → Off (P 0) bad.front l → Off (R 0) bad.front l
    off_of [] parts off = tt
    off_of (t ∷ l) parts off = λ h. elim h [
      | inl p ↦ off p
      | inr q ↦ beyond 0 t l parts off q.0 q.1 q.2 q.3 q.4 q.5
    ]

    on_first : (k : ℕ) (l : List Lexeme) → ts ≡ bad.front ++ l → Off (P 0) bad.front l → On (R (suc k)) bad.front l → On (P (suc k)) bad.front l
    on_first k [] parts off o = o
    on_first k (t ∷ l) parts off (inl p) = p
    on_first k (t ∷ l) parts off (inr q) = absurd (beyond (suc k) t l parts off q.0 q.1 q.2 q.3 q.4 q.5)

    on_both : (k : ℕ) (l : List Lexeme) → On (P (suc k)) bad.front l → On (R (suc k)) bad.front l
    on_both k [] o = o
    on_both k (t ∷ l) o = inl o

  -- the first part is read: the second decides
  module _ (x : A) (left : List Lexeme) (good : Good S P ts x left) (again : Again S Q ts (Ok (x, left))) where
    none_over : (k : ℕ) (w : List Lexeme) (l : List Lexeme) → left ≡ w ++ l → (w ≡ [] → ⊥) → P k (good.front ++ w) → ⊥
    none_over k [] l e n p = n refl
    none_over k (u ∷ w) l e n p = refused left e (good.off k) ((a k).closed (good.front ++ u ∷ []) w (subst (P k) (sym (append_assoc good.front (u ∷ []) w)) p)) where
      refused : (m : List Lexeme) → m ≡ u ∷ (w ++ l) → Off (P k) good.front m → P k (good.front ++ u ∷ []) → ⊥
      refused [] e off p = absurd cc
      refused (t ∷ m) e off p = off (let same : t ≡ u = cc in subst (λ (v : Lexeme). P k (good.front ++ v ∷ [])) (sym same) p)

    same_cut : (y : A) (ys w l : List Lexeme) → ◌≡◌ {A = Read A} (Ok (x, left)) (Ok (y, ys ++ l)) → left ≡ w ++ l → (x ≡ y) × (ys ≡ w)
    same_cut y ys w l e k =
        let p = ok_is (x, left) (y, ys ++ l) e in
        let is : left ≡ ys ++ l = ap (λ (q : A × List Lexeme). q.1) p in
        (ap (λ (q : A × List Lexeme). q.0) p, append_cancel_right ys w l (sym is ∙ k))

    pub goes_on : (k : ℕ) (w l : List Lexeme) → left ≡ w ++ l → (w ≡ [] → ⊥) → R k (good.front ++ w) → Q k x w
    goes_on k w l e n (inl p) = absurd (none_over k w l e n p)
    goes_on k w l e n (inr q) = second q.0 q.1 q.2 q.3 q.4 q.5 where
      second : (y : A) (xs ys : List Lexeme) → good.front ++ w ≡ xs ++ ys → S xs y → Q k y ys → Q k x w
      second y xs [] m s q = absurd (none_over k w l e n (subst (P k) (sym (m ∙ append-nil xs)) ((a k).begun xs y s)))
      second y xs (t ∷ ys) m s q =
          let whole : ts ≡ xs ++ ((t ∷ ys) ++ l) = good.parts ∙ ap (λ (us : List Lexeme). good.front ++ us) e ∙ sym (append_assoc good.front w l) ∙ ap (λ (us : List Lexeme). us ++ l) m ∙ append_assoc xs (t ∷ ys) l in
          let is = same_cut y (t ∷ ys) w l (again k y xs ((t ∷ ys) ++ l) whole s ((b k y).closed (t ∷ []) ys q)) e in
          subst (λ (v : A). Q k v w) (sym is.0) (subst (Q k y) is.1 q)

    pub ends_so : (v : C) → Then S T f (good.front ++ left) v → (y : B) × T x left y
    ends_so v h =
        let whole : ts ≡ h.2 ++ h.3 = good.parts ∙ h.4 in
        let e : ◌≡◌ {A = Read A} (Ok (x, left)) (Ok (h.0, h.3)) = again 0 h.0 h.2 h.3 whole h.5 (meets 0 h.0 h.3 ((b 0 h.0).begun h.3 h.1 h.6)) in
        let p = ok_is (x, left) (h.0, h.3) e in
        (h.1, subst (λ (q : A × List Lexeme). T q.0 q.1 h.1) (sym p) h.6)

    some : (fb : List Lexeme) (t : Lexeme) → fb ++ t ∷ [] ≡ [] → ⊥
    some [] t e = absurd cc
    some (u ∷ us) t e = let bad : u ∷ (us ++ t ∷ []) ≡ [] = e in absurd cc

    later_on : (k : ℕ) (fb : List Lexeme) (t : Lexeme) (l : List Lexeme) → left ≡ fb ++ t ∷ l → R k ((good.front ++ fb) ++ t ∷ []) → Q k x (fb ++ t ∷ [])
    later_on k fb t l e h = goes_on k (fb ++ t ∷ []) l (e ∙ sym (append_assoc fb (t ∷ []) l)) (some fb t) (subst (R k) (append_assoc good.front fb (t ∷ [])) h)

    later_off : (k : ℕ) (fb l : List Lexeme) → left ≡ fb ++ l → Off (Q k x) fb l → Off (R k) (good.front ++ fb) l
    later_off k fb [] e off = tt
    later_off k fb (t ∷ l) e off = λ h. off (later_on k fb t l e h)

    on_second : (k : ℕ) (fb l : List Lexeme) → left ≡ fb ++ l → On (R (suc k)) (good.front ++ fb) l → On (Q (suc k) x) fb l
    on_second k fb [] e o = o
    on_second k fb (t ∷ l) e o = later_on (suc k) fb t l e o

    on_whole : (k : ℕ) (fb l : List Lexeme) → On (Q (suc k) x) fb l → On (R (suc k)) (good.front ++ fb) l
    on_whole k fb [] o = o
    on_whole k fb (t ∷ l) o = inr (x, good.front, fb ++ t ∷ [], append_assoc good.front fb (t ∷ []), good.spelled, o)

    pub second_reads : (r : Read B) → Exact (T x) (λ k. Q k x) left r → Exact (Then S T f) R ts (r >>= λ y. Ok (f x y.0, y.1))
    second_reads (Ok y) g = record {
      front = good.front ++ g.front;
      parts = good.parts ∙ ap (λ (us : List Lexeme). good.front ++ us) g.parts ∙ sym (append_assoc good.front g.front y.1);
      spelled = (x, y.0, good.front, g.front, refl, good.spelled, g.spelled, refl);
      off = λ k. later_off k g.front y.1 g.parts (g.off k);
    }
    second_reads (Err l) g = record {
      front = good.front ++ g.front;
      parts = good.parts ∙ ap (λ (us : List Lexeme). good.front ++ us) g.parts ∙ sym (append_assoc good.front g.front l.0);
      begun = inr (x, good.front, g.front, refl, good.spelled, g.begun);
      off = later_off 0 g.front l.0 g.parts g.off;
      open_end = λ e v h.
          let is : left ≡ g.front = g.parts ∙ ap (λ (us : List Lexeme). g.front ++ us) e ∙ append-nil g.front in
          let y = ends_so v (subst (λ (us : List Lexeme). Then S T f (good.front ++ us) v) (sym is) h) in
          g.open_end e y.0 (subst (λ (us : List Lexeme). T x us y.0) is y.1);
      reason = record { only = λ k o. g.reason.only k (on_second k g.front l.0 g.parts o); so = λ k e. on_whole k g.front l.0 (g.reason.so k e) };
    }
