-- Numbers: where they end.
use Rattle.std.proofs.Common.{◌≡◌, ℕ, zero, suc, ◌+◌, ◌-◌, ◌<◌, ◌≤◌, true, false, List, [], ◌∷◌, ◌++◌, length, take, drop, slice_index, sym, ap, subst, refl, ◌∙◌, arith, drop-cons}
use Rattle.jimple_lex.specs.Bytes.{goes_on}
use Rattle.jimple_words.specs.Bytes.{is_digit, is_letter}
use Rattle.jimple_lex.specs.Forms.{IsNumber, unsigned, negative, named, named_negative, GoesOn}
use Rattle.jimple_lex.specs.Tokens.{Longest}
use Rattle.jimple_lex.specs.Ends.{Ends, EndsRun, part}
use Rattle.jimple_lex.proofs.Parts.{NotNext, Pass, pass_behind, run_ends, part_cons, run_pass, run_next, ends_some, ends_none}
use Rattle.jimple_lex.proofs.Segments.{front_byte}
use Rattle.jimple_lex.proofs.Places.{within_by, run_from}

-- the last byte of a list that begins with this byte
abbrev pub last_of : ℕ → List ℕ → ℕ
last_of d [] = d
last_of d (x ∷ xs) = last_of x xs

abbrev pub NotOn : ℕ → List ℕ → Type 0
NotOn before [] = Unit {0}
NotOn before (c ∷ cs) = goes_on before c ≡ false

goes_behind : (d : ℕ) (ds more : List ℕ) → GoesOn d (ds ++ more) → GoesOn (last_of d ds) more
goes_behind d [] more g = g
goes_behind d (x ∷ ds) more g = goes_behind x ds more g.1

on_ends : (before : ℕ) (more left : List ℕ) → NotOn before (more ++ left) → GoesOn before more → more ≡ []
on_ends before [] left n g = refl
on_ends before (x ∷ more) left n g = absurd (let bad : true ≡ false = sym g.0 ∙ n in cc)

no_digit : (d c : ℕ) → is_digit d ≡ true → d ≡ c → is_digit c ≡ false → ⊥
no_digit d c h e n = let bad : true ≡ false = sym h ∙ ap is_digit e ∙ n in cc

no_letter : (d c : ℕ) → is_letter d ≡ true → d ≡ c → is_letter c ≡ false → ⊥
no_letter d c h e n = let bad : true ≡ false = sym h ∙ ap is_letter e ∙ n in cc

unsigned_goes : (d : ℕ) (ds more left t : List ℕ) → is_digit d ≡ true → NotOn (last_of d ds) (more ++ left) → t ≡ d ∷ (ds ++ more) → IsNumber t → more ≡ []
unsigned_goes d ds more left t h n e (unsigned c cs f k g) =
    let heads : c ≡ d = cc in let tails : cs ≡ ds ++ more = cc in
    on_ends (last_of d ds) more left n (goes_behind d ds more (subst (GoesOn d) tails (subst (λ (x : ℕ). GoesOn x cs) heads g)))
unsigned_goes d ds more left t h n e (negative c cs f k g) = absurd (no_digit d 45 h (cc) refl)
unsigned_goes d ds more left t h n e (named c cs f k) = absurd (no_digit d 35 h (cc) refl)
unsigned_goes d ds more left t h n e (named_negative c cs f k) = absurd (no_digit d 35 h (cc) refl)

pub unsigned_longest : (d : ℕ) (ds rest : List ℕ) → is_digit d ≡ true → GoesOn d ds → NotOn (last_of d ds) rest → Longest IsNumber (d ∷ ds) rest
unsigned_longest d ds rest h g n = record { is = unsigned d ds refl h g; ends = λ more left e s. unsigned_goes d ds more left _ h (subst (NotOn (last_of d ds)) e n) refl s }

negative_goes : (d : ℕ) (ds more left t : List ℕ) → NotOn (last_of d ds) (more ++ left) → t ≡ 45 ∷ d ∷ (ds ++ more) → IsNumber t → more ≡ []
negative_goes d ds more left t n e (unsigned c cs f k g) = absurd (no_digit c 45 k (cc) refl)
negative_goes d ds more left t n e (negative c cs f k g) =
    let heads : c ≡ d = cc in let tails : cs ≡ ds ++ more = cc in
    on_ends (last_of d ds) more left n (goes_behind d ds more (subst (GoesOn d) tails (subst (λ (x : ℕ). GoesOn x cs) heads g)))
negative_goes d ds more left t n e (named c cs f k) = absurd (let bad : ◌≡◌ {A = ℕ} 45 35 = cc in omega arith)
negative_goes d ds more left t n e (named_negative c cs f k) = absurd (let bad : ◌≡◌ {A = ℕ} 45 35 = cc in omega arith)

pub negative_longest : (d : ℕ) (ds rest : List ℕ) → is_digit d ≡ true → GoesOn d ds → NotOn (last_of d ds) rest → Longest IsNumber (45 ∷ d ∷ ds) rest
negative_longest d ds rest h g n = record { is = negative d ds refl h g; ends = λ more left e s. negative_goes d ds more left _ (subst (NotOn (last_of d ds)) e n) refl s }

named_goes : (d : ℕ) (ds more left t : List ℕ) → is_letter d ≡ true → NotNext is_letter (more ++ left) → t ≡ 35 ∷ d ∷ (ds ++ more) → IsNumber t → more ≡ []
named_goes d ds more left t h n e (unsigned c cs f k g) = absurd (no_digit c 35 k (cc) refl)
named_goes d ds more left t h n e (negative c cs f k g) = absurd (let bad : ◌≡◌ {A = ℕ} 45 35 = cc in omega arith)
named_goes d ds more left t h n e (named c cs f k) =
    let tails : cs ≡ ds ++ more = cc in
    run_ends is_letter more left n (pass_behind is_letter ds more (subst (Pass is_letter) tails k.1))
named_goes d ds more left t h n e (named_negative c cs f k) = absurd (no_letter d 45 h (cc) refl)

pub named_longest : (d : ℕ) (ds rest : List ℕ) → is_letter d ≡ true → Pass is_letter ds → NotNext is_letter rest → Longest IsNumber (35 ∷ d ∷ ds) rest
named_longest d ds rest h g n = record { is = named d ds refl (h, g); ends = λ more left e s. named_goes d ds more left _ h (subst (NotNext is_letter) e n) refl s }

named_negative_goes : (d : ℕ) (ds more left t : List ℕ) → NotNext is_letter (more ++ left) → t ≡ 35 ∷ 45 ∷ d ∷ (ds ++ more) → IsNumber t → more ≡ []
named_negative_goes d ds more left t n e (unsigned c cs f k g) = absurd (no_digit c 35 k (cc) refl)
named_negative_goes d ds more left t n e (negative c cs f k g) = absurd (let bad : ◌≡◌ {A = ℕ} 45 35 = cc in omega arith)
named_negative_goes d ds more left t n e (named c cs f k) = absurd (no_letter c 45 k.0 (cc) refl)
named_negative_goes d ds more left t n e (named_negative c cs f k) =
    let tails : cs ≡ ds ++ more = cc in
    run_ends is_letter more left n (pass_behind is_letter ds more (subst (Pass is_letter) tails k.1))

pub named_negative_longest : (d : ℕ) (ds rest : List ℕ) → is_letter d ≡ true → Pass is_letter ds → NotNext is_letter rest → Longest IsNumber (35 ∷ 45 ∷ d ∷ ds) rest
named_negative_longest d ds rest h g n = record { is = named_negative d ds refl (h, g); ends = λ more left e s. named_negative_goes d ds more left _ (subst (NotNext is_letter) e n) refl s }

-- the run behind the first digit, which stands at m
goes_list : (bytes : List ℕ) (n m : ℕ) → suc m + n ≤ length bytes → ((k : ℕ) → suc m ≤ k → k < suc m + n → goes_on (slice_index bytes (k - 1)) (slice_index bytes k) ≡ true) → GoesOn (slice_index bytes m) (take n (drop (suc m) bytes))
goes_list bytes zero m within each = tt
goes_list bytes (suc n) m within each =
    let before : suc m - 1 ≡ m = omega arith in
    subst (λ (bs : List ℕ). GoesOn (slice_index bytes m) (take (suc n) bs)) (sym (drop-cons bytes (suc m) 0 (omega arith))) (
      subst (λ (k : ℕ). goes_on (slice_index bytes k) (slice_index bytes (suc m)) ≡ true) before (each (suc m) (omega arith) (omega arith)),
      goes_list bytes n (suc m) (omega arith) (λ k low high. each k (omega arith) (omega arith)),
    )

last_list : (bytes : List ℕ) (n m : ℕ) → suc m + n ≤ length bytes → last_of (slice_index bytes m) (take n (drop (suc m) bytes)) ≡ slice_index bytes (m + n)
last_list bytes zero m within = ap (slice_index bytes) (let same : m ≡ m + 0 = omega arith in same)
last_list bytes (suc n) m within =
    ap (λ (bs : List ℕ). last_of (slice_index bytes m) (take (suc n) bs)) (drop-cons bytes (suc m) 0 (omega arith))
    ∙ last_list bytes n (suc m) (omega arith) ∙ ap (slice_index bytes) (let same : suc m + n ≡ m + suc n = omega arith in same)

not_on : (bytes : List ℕ) (before to : ℕ) → (to < length bytes → goes_on before (slice_index bytes to) ≡ false) → NotOn before (drop to bytes)
not_on [] before zero next = tt
not_on [] before (suc to) next = tt
not_on (b ∷ bs) before zero next = next (omega arith)
not_on (b ∷ bs) before (suc to) next = not_on bs before to (λ below. next (omega arith))

abbrev pub Tail : List ℕ → ℕ → ℕ → Type 0
Tail bytes from to = EndsRun (λ k. goes_on (slice_index bytes (k - 1)) (slice_index bytes k)) (length bytes) from to

module _ (bytes : List ℕ) (m to : ℕ) (r : Tail bytes (suc m) to) where
  tail_goes : GoesOn (slice_index bytes m) (part bytes (suc m) to)
  tail_goes = goes_list bytes (to - suc m) m (omega (arith, r.order, r.within)) (λ k low high. r.each k low (omega (arith, high, r.order)))

  tail_next : NotOn (last_of (slice_index bytes m) (part bytes (suc m) to)) (drop to bytes)
  tail_next = subst (λ (x : ℕ). NotOn x (drop to bytes)) (sym (last_list bytes (to - suc m) m (omega (arith, r.order, r.within)) ∙ ap (slice_index bytes) (let same : m + (to - suc m) ≡ to - 1 = omega (arith, r.order) in same)))
      (not_on bytes (slice_index bytes (to - 1)) to r.next)

module _ (bytes : List ℕ) (at to : ℕ) (below : at < length bytes) where
  pub unsigned_there : is_digit (slice_index bytes at) ≡ true → Tail bytes (at + 1) to → Ends (Longest IsNumber) bytes at to
  unsigned_there d e = let r = run_from e in
      ends_some (Longest IsNumber) bytes at to (omega (arith, r.order)) r.within
      (subst (λ (t : List ℕ). Longest IsNumber t (drop to bytes)) (sym (part_cons bytes at to (omega (arith, r.order)) below))
      (unsigned_longest (slice_index bytes at) (part bytes (suc at) to) (drop to bytes) d (tail_goes bytes at to r) (tail_next bytes at to r)))

  pub negative_there : slice_index bytes at ≡ 45 → is_digit (slice_index bytes (at + 1)) ≡ true → Tail bytes (at + 2) to → Ends (Longest IsNumber) bytes at to
  negative_there is d e =
      let one : at + 1 ≡ suc at = omega arith in let two : at + 2 ≡ suc (suc at) = omega arith in
      go (subst (λ (k : ℕ). is_digit (slice_index bytes k) ≡ true) one d) (subst (λ (k : ℕ). Tail bytes k to) two e)
    where
      go : is_digit (slice_index bytes (suc at)) ≡ true → Tail bytes (suc (suc at)) to → Ends (Longest IsNumber) bytes at to
      go d r = let inside = within_by is_digit bytes (suc at) refl d in
          ends_some (Longest IsNumber) bytes at to (omega (arith, r.order)) r.within
          (subst (λ (t : List ℕ). Longest IsNumber t (drop to bytes))
          (sym (part_cons bytes at to (omega (arith, r.order)) below ∙ ap (λ (x : ℕ). x ∷ part bytes (suc at) to) is ∙ ap (λ (t : List ℕ). 45 ∷ t) (part_cons bytes (suc at) to (omega (arith, r.order)) inside)))
          (negative_longest (slice_index bytes (suc at)) (part bytes (suc (suc at)) to) (drop to bytes) d (tail_goes bytes (suc at) to r) (tail_next bytes (suc at) to r)))

  pub named_there : slice_index bytes at ≡ 35 → is_letter (slice_index bytes (at + 1)) ≡ true → EndsRun (λ k. is_letter (slice_index bytes k)) (length bytes) (at + 2) to → Ends (Longest IsNumber) bytes at to
  named_there is d e =
      let one : at + 1 ≡ suc at = omega arith in let two : at + 2 ≡ suc (suc at) = omega arith in
      go (subst (λ (k : ℕ). is_letter (slice_index bytes k) ≡ true) one d) (subst (λ (k : ℕ). EndsRun (λ k. is_letter (slice_index bytes k)) (length bytes) k to) two e)
    where
      go : is_letter (slice_index bytes (suc at)) ≡ true → EndsRun (λ k. is_letter (slice_index bytes k)) (length bytes) (suc (suc at)) to → Ends (Longest IsNumber) bytes at to
      go d r = let inside = within_by is_letter bytes (suc at) refl d in
          ends_some (Longest IsNumber) bytes at to (omega (arith, r.order)) r.within
          (subst (λ (t : List ℕ). Longest IsNumber t (drop to bytes))
          (sym (part_cons bytes at to (omega (arith, r.order)) below ∙ ap (λ (x : ℕ). x ∷ part bytes (suc at) to) is ∙ ap (λ (t : List ℕ). 35 ∷ t) (part_cons bytes (suc at) to (omega (arith, r.order)) inside)))
          (named_longest (slice_index bytes (suc at)) (part bytes (suc (suc at)) to) (drop to bytes) d (run_pass is_letter bytes (suc (suc at)) to r) (run_next is_letter bytes (suc (suc at)) to r)))

  pub named_negative_there : slice_index bytes at ≡ 35 → slice_index bytes (at + 1) ≡ 45 → is_letter (slice_index bytes (at + 2)) ≡ true → EndsRun (λ k. is_letter (slice_index bytes k)) (length bytes) (at + 3) to
      → Ends (Longest IsNumber) bytes at to
  named_negative_there is next d e =
      let one : at + 1 ≡ suc at = omega arith in let two : at + 2 ≡ suc (suc at) = omega arith in let three : at + 3 ≡ suc (suc (suc at)) = omega arith in
      go (subst (λ (k : ℕ). slice_index bytes k ≡ 45) one next) (subst (λ (k : ℕ). is_letter (slice_index bytes k) ≡ true) two d) (subst (λ (k : ℕ). EndsRun (λ k. is_letter (slice_index bytes k)) (length bytes) k to) three e)
    where
      go : slice_index bytes (suc at) ≡ 45 → is_letter (slice_index bytes (suc (suc at))) ≡ true → EndsRun (λ k. is_letter (slice_index bytes k)) (length bytes) (suc (suc (suc at))) to → Ends (Longest IsNumber) bytes at to
      go next d r = let inside = within_by is_letter bytes (suc (suc at)) refl d in
          ends_some (Longest IsNumber) bytes at to (omega (arith, r.order)) r.within
          (subst (λ (t : List ℕ). Longest IsNumber t (drop to bytes))
          (sym (part_cons bytes at to (omega (arith, r.order)) below ∙ ap (λ (x : ℕ). x ∷ part bytes (suc at) to) is
          ∙ ap (λ (t : List ℕ). 35 ∷ t) (part_cons bytes (suc at) to (omega (arith, r.order)) (omega (arith, inside)) ∙ ap (λ (x : ℕ). x ∷ part bytes (suc (suc at)) to) next)
          ∙ ap (λ (t : List ℕ). 35 ∷ 45 ∷ t) (part_cons bytes (suc (suc at)) to (omega (arith, r.order)) inside)))
          (named_negative_longest (slice_index bytes (suc (suc at))) (part bytes (suc (suc (suc at))) to) (drop to bytes) d (run_pass is_letter bytes (suc (suc (suc at))) to r) (run_next is_letter bytes (suc (suc (suc at))) to r)))

-- no number begins there
pub record NoNumber (a b c : ℕ) : Type 0 where
  pub no_digit_first : is_digit a ≡ false
  pub no_digit_next : a ≡ 45 → is_digit b ≡ false
  pub no_letter_next : a ≡ 35 → is_letter b ≡ false
  pub no_letter_third : a ≡ 35 → b ≡ 45 → is_letter c ≡ false

module _ (bytes : List ℕ) (at : ℕ) where
  none_front : NoNumber (slice_index bytes at) (slice_index bytes (suc at)) (slice_index bytes (suc (suc at))) → (text rest : List ℕ) → drop at bytes ≡ text ++ rest → IsNumber text → ⊥
  none_front n text rest e (unsigned d ds f h g) =
      let p = front_byte bytes at d (ds ++ rest) (e ∙ ap (λ (t : List ℕ). t ++ rest) f) in
      no_digit d (slice_index bytes at) h (sym p.0) n.no_digit_first
  none_front n text rest e (negative d ds f h g) =
      let p = front_byte bytes at 45 (d ∷ (ds ++ rest)) (e ∙ ap (λ (t : List ℕ). t ++ rest) f) in
      let q = front_byte bytes (suc at) d (ds ++ rest) p.1 in
      no_digit d (slice_index bytes (suc at)) h (sym q.0) (n.no_digit_next p.0)
  none_front n text rest e (named d ds f h) =
      let p = front_byte bytes at 35 (d ∷ (ds ++ rest)) (e ∙ ap (λ (t : List ℕ). t ++ rest) f) in
      let q = front_byte bytes (suc at) d (ds ++ rest) p.1 in
      no_letter d (slice_index bytes (suc at)) h.0 (sym q.0) (n.no_letter_next p.0)
  none_front n text rest e (named_negative d ds f h) =
      let p = front_byte bytes at 35 (45 ∷ d ∷ (ds ++ rest)) (e ∙ ap (λ (t : List ℕ). t ++ rest) f) in
      let q = front_byte bytes (suc at) 45 (d ∷ (ds ++ rest)) p.1 in
      let r = front_byte bytes (suc (suc at)) d (ds ++ rest) q.1 in
      no_letter d (slice_index bytes (suc (suc at))) h.0 (sym r.0) (n.no_letter_third p.0 q.0)

  pub no_number : at < length bytes → NoNumber (slice_index bytes at) (slice_index bytes (at + 1)) (slice_index bytes (at + 2)) → Ends (Longest IsNumber) bytes at at
  no_number below n =
      let one : at + 1 ≡ suc at = omega arith in let two : at + 2 ≡ suc (suc at) = omega arith in
      ends_none (Longest IsNumber) bytes at (omega arith)
      (λ text rest e l. none_front (subst (λ (k : ℕ). NoNumber (slice_index bytes at) (slice_index bytes (suc at)) (slice_index bytes k)) two (subst (λ (k : ℕ). NoNumber (slice_index bytes at) (slice_index bytes k) (slice_index bytes (at + 2))) one n)) text rest e l.is)

pub no_sign_number : (a b c : ℕ) → a ≡ 45 → is_digit b ≡ false → NoNumber a b c
no_sign_number a b c e n = record {
  no_digit_first = ap is_digit e;
  no_digit_next = λ _. n;
  no_letter_next = λ f. absurd (let bad : ◌≡◌ {A = ℕ} 45 35 = sym e ∙ f in omega arith);
  no_letter_third = λ f. absurd (let bad : ◌≡◌ {A = ℕ} 45 35 = sym e ∙ f in omega arith);
}

pub no_name_number : (a b c : ℕ) → a ≡ 35 → is_letter b ≡ false → (b ≡ 45 → is_letter c ≡ false) → NoNumber a b c
no_name_number a b c e n m = record {
  no_digit_first = ap is_digit e;
  no_digit_next = λ f. absurd (let bad : ◌≡◌ {A = ℕ} 35 45 = sym e ∙ f in omega arith);
  no_letter_next = λ _. n;
  no_letter_third = λ _. m;
}

pub no_front_number : (a b c : ℕ) → is_digit a ≡ false → (a ≡ 45 → ⊥) → (a ≡ 35 → ⊥) → NoNumber a b c
no_front_number a b c d m n = record {
  no_digit_first = d;
  no_digit_next = λ f. absurd (m f);
  no_letter_next = λ f. absurd (n f);
  no_letter_third = λ f. absurd (n f);
}
