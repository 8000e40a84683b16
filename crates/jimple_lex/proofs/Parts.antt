-- Runs of bytes and fronts of texts, as lists.
use Rattle.std.proofs.Common.{◌≡◌, ◌⊎◌, inl, inr, ℕ, zero, suc, ◌+◌, ◌-◌, ◌<◌, ◌≤◌, Bool, true, false, List, [], ◌∷◌, ◌++◌, length, take, drop, slice_index, sym, ap, subst, refl, ◌∙◌, arith, append_assoc, append-nil, drop-cons, drop-drop, length-drop, length-take, length-append, take-append-drop}
use Rattle.std.specs.List.{AllByRecursion}
use native.Mathlib.Decide.{dec_lt}
use Rattle.jimple_lex.specs.Tokens.{Longest}
use Rattle.jimple_lex.specs.Ends.{Ends, EndsLongest, EndsRun, part}

-- a run that goes on by one
pub one_more : (test : ℕ → Bool) (from to : ℕ) → ((k : ℕ) → from ≤ k → k < to → test k ≡ true) → test to ≡ true → (k : ℕ) → from ≤ k → k < to + 1 → test k ≡ true
one_more test from to each here k low high = elim (dec_lt k to) [
  | Prim.yes below ↦ each k low below
  | Prim.no over ↦ let same : to ≡ k = omega (arith, over, high) in ap test (sym same) ∙ here
]

-- the next byte, if there is one, fails the test
abbrev pub NotNext : (ℕ → Bool) → List ℕ → Type 0
NotNext test [] = Unit {0}
NotNext test (c ∷ cs) = test c ≡ false

abbrev pub Pass : (ℕ → Bool) → List ℕ → Type 0
Pass test xs = AllByRecursion (λ x. test x ≡ true) xs

pub pass_behind : (test : ℕ → Bool) (a b : List ℕ) → Pass test (a ++ b) → Pass test b
pass_behind test [] b p = p
pass_behind test (x ∷ a) b p = pass_behind test a b p.1

-- the longest run from the front is one
pub one_run : (test : ℕ → Bool) (w v rest left : List ℕ) → Pass test w → Pass test v → NotNext test rest → NotNext test left → w ++ rest ≡ v ++ left → (w ≡ v) × (rest ≡ left)
one_run test [] [] rest left a b n m e = (refl, e)
one_run test [] (x ∷ v) [] left a b n m e = absurd (let bad : [] ≡ x ∷ (v ++ left) = e in cc)
one_run test [] (x ∷ v) (y ∷ rest) left a b n m e = absurd (let same : y ≡ x = cc in let bad : false ≡ true = sym n ∙ ap test same ∙ b.0 in cc)
one_run test (x ∷ w) [] rest [] a b n m e = absurd (let bad : x ∷ (w ++ rest) ≡ [] = e in cc)
one_run test (x ∷ w) [] rest (y ∷ left) a b n m e = absurd (let same : x ≡ y = cc in let bad : true ≡ false = sym a.0 ∙ ap test same ∙ m in cc)
one_run test (x ∷ w) (y ∷ v) rest left a b n m e =
    let heads : x ≡ y = cc in
    let tails : w ++ rest ≡ v ++ left = cc in
    let more = one_run test w v rest left a.1 b.1 n m tails in
    (ap (λ (h : ℕ). h ∷ w) heads ∙ ap (λ (t : List ℕ). y ∷ t) more.0, more.1)

-- a run can't go on where the next byte fails
pub run_ends : (test : ℕ → Bool) (more left : List ℕ) → NotNext test (more ++ left) → Pass test more → more ≡ []
run_ends test [] left n p = refl
run_ends test (x ∷ more) left n p = absurd (let bad : true ≡ false = sym p.0 ∙ n in cc)

-- two fronts of one text: the one is a front of the other
pub fronts : (a b c d : List ℕ) → a ++ b ≡ c ++ d → ((m : List ℕ) × (c ≡ a ++ m) × (b ≡ m ++ d)) ⊎ ((m : List ℕ) × (a ≡ c ++ m) × (d ≡ m ++ b))
fronts [] b c d e = inl (c, refl, e)
fronts (x ∷ a) b [] d e = inr (x ∷ a, refl, sym e)
fronts (x ∷ a) b (y ∷ c) d e =
    let heads : x ≡ y = cc in
    let tails : a ++ b ≡ c ++ d = cc in
    elim (fronts a b c d tails) [
      | inl f ↦ inl (f.0, ap (λ (u : List ℕ). y ∷ u) f.1 ∙ ap (λ (h : ℕ). h ∷ (a ++ f.0)) (sym heads), f.2)
      | inr f ↦ inr (f.0, ap (λ (u : List ℕ). x ∷ u) f.1 ∙ ap (λ (h : ℕ). h ∷ (c ++ f.0)) heads, f.2)
    ]

pub longest_front : (P : List ℕ → Type 0) (t r u s : List ℕ) → Longest P t r → t ++ r ≡ u ++ s → P u → length u ≤ length t
longest_front P t r u s l e p = elim (fronts t r u s e) [
  | inl f ↦ let none = l.ends f.0 s f.2 (subst P f.1 p) in let same : u ≡ t = f.1 ∙ ap (λ (m : List ℕ). t ++ m) none ∙ append-nil t in let n = ap length same in omega (arith, n)
  | inr f ↦ let n = ap length f.1 in omega (arith, n, length-append u f.0)
]

pub one_longest : (P : List ℕ → Type 0) (t r u s : List ℕ) → Longest P t r → Longest P u s → t ++ r ≡ u ++ s → (t ≡ u) × (r ≡ s)
one_longest P t r u s l k e = elim (fronts t r u s e) [
  | inl f ↦ let none = l.ends f.0 s f.2 (subst P f.1 k.is) in (sym (f.1 ∙ ap (λ (m : List ℕ). t ++ m) none ∙ append-nil t), f.2 ∙ ap (λ (m : List ℕ). m ++ s) none)
  | inr f ↦ let none = k.ends f.0 r f.2 (subst P f.1 l.is) in (f.1 ∙ ap (λ (m : List ℕ). u ++ m) none ∙ append-nil u, sym (f.2 ∙ ap (λ (m : List ℕ). m ++ r) none))
]

-- no longer front is of the form
pub longest_of : (P : List ℕ → Type 0) (t r : List ℕ) → P t → ((u s : List ℕ) → t ++ r ≡ u ++ s → P u → length u ≤ length t) → Longest P t r
longest_of P t r p most = record {
  is = p;
  ends = λ more left e q.
      let same : t ++ r ≡ (t ++ more) ++ left = ap (λ (m : List ℕ). t ++ m) e ∙ sym (append_assoc t more left) in
      let n = most (t ++ more) left same q in
      nothing more (let k = length-append t more in omega (arith, n, k));
} where
  nothing : (m : List ℕ) → length m ≤ 0 → m ≡ []
  nothing [] h = refl
  nothing (x ∷ m) h = absurd (omega arith)

module _ (bytes : List ℕ) (from to : ℕ) where
  pub parts : from ≤ to → drop from bytes ≡ part bytes from to ++ drop to bytes
  parts order = sym (take-append-drop (to - from) (drop from bytes)) ∙ ap (λ (bs : List ℕ). part bytes from to ++ bs) (drop-drop _ _ bytes ∙ ap (λ (k : ℕ). drop k bytes) (let sum : from + (to - from) ≡ to = omega arith in sum))

  pub part_length : from ≤ to → to ≤ length bytes → length (part bytes from to) ≡ to - from
  part_length order within = let n = length-take (to - from) (drop from bytes) in let m = length-drop from bytes in omega (arith, n, m)

  pub part_cons : from < to → from < length bytes → part bytes from to ≡ slice_index bytes from ∷ part bytes (suc from) to
  part_cons order within =
      let one : to - from ≡ suc (to - suc from) = omega arith in
      ap (λ (n : ℕ). take n (drop from bytes)) one ∙ ap (λ (bs : List ℕ). take (suc (to - suc from)) bs) (drop-cons bytes from 0 within)

pub part_more : (bytes : List ℕ) (from mid to : ℕ) → from ≤ mid → mid ≤ to → to ≤ length bytes → part bytes from to ≡ part bytes from mid ++ part bytes mid to
part_more bytes from mid to low high within =
    cancel (part bytes from to) (part bytes from mid ++ part bytes mid to) (drop to bytes)
    (sym (parts bytes from to (omega arith)) ∙ parts bytes from mid low ∙ ap (λ (bs : List ℕ). part bytes from mid ++ bs) (parts bytes mid to high) ∙ sym (append_assoc (part bytes from mid) (part bytes mid to) (drop to bytes)))
    (let a = part_length bytes from to (omega arith) within in let b = part_length bytes from mid low (omega arith) in let c = part_length bytes mid to high within in let d = length-append (part bytes from mid) (part bytes mid to) in omega (arith, a, b, c, d))
  where
    cancel : (a b r : List ℕ) → a ++ r ≡ b ++ r → length a ≡ length b → a ≡ b
    cancel [] [] r e n = refl
    cancel [] (y ∷ b) r e n = absurd (omega arith)
    cancel (x ∷ a) [] r e n = absurd (omega arith)
    cancel (x ∷ a) (y ∷ b) r e n =
        let heads : x ≡ y = cc in
        let tails : a ++ r ≡ b ++ r = cc in
        ap (λ (h : ℕ). h ∷ a) heads ∙ ap (λ (u : List ℕ). y ∷ u) (cancel a b r tails (omega arith))

-- the bytes of a run all pass, and the next doesn't
pub run_list : (test : ℕ → Bool) (bytes : List ℕ) (n m : ℕ) → m + n ≤ length bytes → ((k : ℕ) → m ≤ k → k < m + n → test (slice_index bytes k) ≡ true) → Pass test (take n (drop m bytes))
run_list test bytes zero m within each = tt
run_list test bytes (suc n) m within each =
    subst (λ (bs : List ℕ). Pass test (take (suc n) bs)) (sym (drop-cons bytes m 0 (omega arith)))
    (each m (omega arith) (omega arith), run_list test bytes n (suc m) (omega arith) (λ k low high. each k (omega arith) (omega arith)))

pub not_next : (test : ℕ → Bool) (bytes : List ℕ) (to : ℕ) → (to < length bytes → test (slice_index bytes to) ≡ false) → NotNext test (drop to bytes)
not_next test [] zero next = tt
not_next test [] (suc to) next = tt
not_next test (b ∷ bs) zero next = next (omega arith)
not_next test (b ∷ bs) (suc to) next = not_next test bs to (λ below. next (omega arith))

module _ (test : ℕ → Bool) (bytes : List ℕ) (from to : ℕ) (r : EndsRun (λ k. test (slice_index bytes k)) (length bytes) from to) where
  pub run_pass : Pass test (part bytes from to)
  run_pass = run_list test bytes (to - from) from (omega (arith, r.order, r.within)) (λ k low high. r.each k low (omega (arith, high, r.order)))

  pub run_next : NotNext test (drop to bytes)
  run_next = not_next test bytes to r.next

-- a piece ends there
pub ends_some : (Form : List ℕ → List ℕ → Type 0) (bytes : List ℕ) (from to : ℕ) → from < to → to ≤ length bytes → Form (part bytes from to) (drop to bytes) → Ends Form bytes from to
ends_some Form bytes from to order within form = record { order = omega arith; within = within; some = λ _. form; none = λ over. absurd (omega (arith, over, order)) }

pub ends_none : (Form : List ℕ → List ℕ → Type 0) (bytes : List ℕ) (from : ℕ) → from ≤ length bytes → ((text rest : List ℕ) → drop from bytes ≡ text ++ rest → Form text rest → ⊥) → Ends Form bytes from from
ends_none Form bytes from within none = record { order = omega arith; within = within; some = λ below. absurd (omega (arith, below)); none = λ _. none }

pub longest_some : (Form : List ℕ → Type 0) (bytes : List ℕ) (from to : ℕ) → from < to → to ≤ length bytes → Longest Form (part bytes from to) (drop to bytes) → EndsLongest Form bytes from to
longest_some Form bytes from to order within form = record { order = omega arith; within = within; some = λ _. form; none = λ over. absurd (omega (arith, over, order)) }

pub longest_none : (Form : List ℕ → Type 0) (bytes : List ℕ) (from : ℕ) → from ≤ length bytes → ((text rest : List ℕ) → drop from bytes ≡ text ++ rest → Form text → ⊥) → EndsLongest Form bytes from from
longest_none Form bytes from within none = record { order = omega arith; within = within; some = λ below. absurd (omega (arith, below)); none = λ _. none }
