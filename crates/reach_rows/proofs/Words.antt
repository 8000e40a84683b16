-- Bits of words that take in others.
use Rattle.std.proofs.Common.{◌-◌, cond, w64, ◌≡◌, ◌≢◌, ◌⊎◌, ◌<◌, ◌≤◌, ◌+◌, ◌*◌, ◌/◌, ◌%◌, ◌^◌, ℕ, max, Bool, true, false, ◌||◌, List, length, get_or, set, bit_or, All, refl, sym, ap, ◌∙◌, subst, inl, inr, arith}
use Rattle.std.specs.Int.{bit_at}
use Rattle.std.specs.List.{sum_by}
use Rattle.std.proofs.lemmas.Bool.{cases_eq, cases_lt, eqb-true, eq-eqb}
use Rattle.std.proofs.lemmas.List.{get_or-set_same, get_or-set_other, get_or_past}
use Rattle.std.proofs.lemmas.List.Sums.{sum_by-set, sum_by-le}
use Rattle.std.proofs.lemmas.Nat.{same_from_place, le_or_l, div_below}
use Rattle.std.proofs.lemmas.Nat.Bits.{bit_at-lt, bit_at_or, bit_at-zero, bit_at_set_same, bit_at_set_other}
use Rattle.reach_rows.specs.Bits.{has_bit, HasBit, with_word, total, Grows, GainsFrom, IsShaped, IsOwnOnly}

bit_from : (width : ℕ) (bits : List ℕ) (a b : ℕ) → bit_at (get_or bits (a * width + b / 64) 0) (b % 64) ≡ 1 → HasBit width bits a b
unfolding has_bit
bit_from width bits a b e = eq-eqb _ 1 e

bit_is : (width : ℕ) (bits : List ℕ) (a b : ℕ) → HasBit width bits a b → bit_at (get_or bits (a * width + b / 64) 0) (b % 64) ≡ 1
unfolding has_bit
bit_is width bits a b e = eqb-true _ 1 e

max_one : (p q : ℕ) → max p q ≡ 1 → (p ≡ 1) ⊎ (q ≡ 1)
max_one p q e = elim (cases_eq p 1) [ inl is ↦ inl is | inr isnt ↦ inr (omega (arith, e, isnt)) ]

or_left : (u v i : ℕ) → bit_at u i ≡ 1 → bit_at (bit_or u v) i ≡ 1
or_left u v i e = let m = bit_at_or u v i in let p = bit_at-lt v i in omega (arith, m, p, e)

or_right : (u v i : ℕ) → bit_at v i ≡ 1 → bit_at (bit_or u v) i ≡ 1
or_right u v i e = let m = bit_at_or u v i in let p = bit_at-lt u i in omega (arith, m, p, e)

or_from : (u v i : ℕ) → bit_at (bit_or u v) i ≡ 1 → (bit_at u i ≡ 1) ⊎ (bit_at v i ≡ 1)
or_from u v i e = max_one (bit_at u i) (bit_at v i) (sym (bit_at_or u v i) ∙ e)

-- a word of the row of a takes in that of b
module _ (width : ℕ) (old new : List ℕ) (a b j : ℕ) (within : j < width) (long : a * width + j < length old) (is : new ≡ with_word old (a * width + j) (b * width + j)) where
  word_there : get_or new (a * width + j) 0 ≡ bit_or (get_or old (a * width + j) 0) (get_or old (b * width + j) 0)
  word_there = ap (λ (ws : List ℕ). get_or ws (a * width + j) 0) is ∙ get_or-set_same old (a * width + j) _ 0 long

  word_other : (k : ℕ) → k ≢ a * width + j → get_or new k 0 ≡ get_or old k 0
  word_other k apart = ap (λ (ws : List ℕ). get_or ws k 0) is ∙ get_or-set_other old (a * width + j) k _ 0 apart

  pub word_gains : GainsFrom width a b old new
  word_gains x c column has = elim (cases_eq (x * width + c / 64) (a * width + j)) [
    | inl same ↦
        let at : (x ≡ a) × (c / 64 ≡ j) = same_from_place x (c / 64) a j width column within same in
        let bit : bit_at (bit_or (get_or old (a * width + j) 0) (get_or old (b * width + j) 0)) (c % 64) ≡ 1 =
        ap (λ (w : ℕ). bit_at w (c % 64)) (sym word_there) ∙ ap (λ (k : ℕ). bit_at (get_or new k 0) (c % 64)) (sym same) ∙ bit_is width new x c has in
        elim (or_from _ _ (c % 64) bit) [
          | inl left ↦ inl (bit_from width old x c (ap (λ (k : ℕ). bit_at (get_or old k 0) (c % 64)) same ∙ left))
          | inr right ↦ inr (at.0, bit_from width old b c (ap (λ (k : ℕ). bit_at (get_or old (b * width + k) 0) (c % 64)) at.1 ∙ right))
        ]
    | inr apart ↦ inl (bit_from width old x c (ap (λ (w : ℕ). bit_at w (c % 64)) (sym (word_other (x * width + c / 64) apart)) ∙ bit_is width new x c has))
  ]

  pub word_kept : (x c : ℕ) → HasBit width old x c → HasBit width new x c
  word_kept x c has = elim (cases_eq (x * width + c / 64) (a * width + j)) [
    | inl same ↦
        let bit : bit_at (get_or old (a * width + j) 0) (c % 64) ≡ 1 = ap (λ (k : ℕ). bit_at (get_or old k 0) (c % 64)) (sym same) ∙ bit_is width old x c has in
        bit_from width new x c (ap (λ (k : ℕ). bit_at (get_or new k 0) (c % 64)) same ∙ ap (λ (w : ℕ). bit_at w (c % 64)) word_there ∙ or_left _ _ (c % 64) bit)
    | inr apart ↦ bit_from width new x c (ap (λ (w : ℕ). bit_at w (c % 64)) (word_other (x * width + c / 64) apart) ∙ bit_is width old x c has)
  ]

  pub word_taken : (c : ℕ) → c / 64 ≡ j → HasBit width old b c → HasBit width new a c
  word_taken c column has =
      let bit : bit_at (get_or old (b * width + j) 0) (c % 64) ≡ 1 = ap (λ (k : ℕ). bit_at (get_or old (b * width + k) 0) (c % 64)) (sym column) ∙ bit_is width old b c has in
      bit_from width new a c (ap (λ (k : ℕ). bit_at (get_or new (a * width + k) 0) (c % 64)) column ∙ ap (λ (w : ℕ). bit_at w (c % 64)) word_there ∙ or_right _ _ (c % 64) bit)

-- the total rises with a word
pub total_more : (old new : List ℕ) (at w : ℕ) → at < length old → new ≡ set old at w → get_or old at 0 < w → total old < total new
unfolding total
total_more old new at w within is more = let changed = sum_by-set (λ (v : ℕ). v) old at w 0 within in let now = ap (λ (ws : List ℕ). sum_by (λ (v : ℕ). v) ws) is in omega (arith, changed, now, more)

pub total_within : (m : ℕ) (bits : List ℕ) → All (λ w. w ≤ m) bits → total bits ≤ length bits * m
unfolding total
total_within m bits each = sum_by-le (λ (v : ℕ). v) m bits each

pub or_more : (u v : ℕ) → bit_or u v ≢ u → u < bit_or u v
or_more u v other = let least = le_or_l u v in omega (arith, least, other)

-- growth on growth
pub grows_more : (width : ℕ) (old mid new : List ℕ) (p q r : Bool) → r ≡ (p || q) → Grows width old mid p → Grows width mid new q → Grows width old new r
grows_more width old mid new true true r is f g = record { kept = λ a b has. g.kept a b (f.kept a b has); more = λ e. (let one = f.more refl in let two = g.more refl in omega (arith, one, two)); same = λ e. absurd (let no : true ≡ false = sym is ∙ e in cc) }
grows_more width old mid new true false r is f g = record { kept = λ a b has. g.kept a b (f.kept a b has); more = λ e. subst (λ (ws : List ℕ). total old < total ws) (sym (g.same refl)) (f.more refl); same = λ e. absurd (let no : true ≡ false = sym is ∙ e in cc) }
grows_more width old mid new false true r is f g = record { kept = λ a b has. g.kept a b (f.kept a b has); more = λ e. subst (λ (ws : List ℕ). total ws < total new) (f.same refl) (g.more refl); same = λ e. absurd (let no : true ≡ false = sym is ∙ e in cc) }
grows_more width old mid new false false r is f g = record { kept = λ a b has. g.kept a b (f.kept a b has); more = λ e. absurd (let no : false ≡ true = sym is ∙ e in cc); same = λ e. g.same refl ∙ f.same refl }

-- one word more of a row that takes in another
pub gains_more : (width a b : ℕ) (old mid new : List ℕ) → GainsFrom width a b old mid → GainsFrom width a b mid new → GainsFrom width a b old new
gains_more width a b old mid new f g x c column has = elim (g x c column has) [
  | inl own ↦ f x c column own
  | inr taken ↦ elim (f b c column taken.1) [ inl was ↦ inr (taken.0, was) | inr again ↦ inr (taken.0, again.1) ]
]

abbrev pub HasTaken : ℕ → ℕ → ℕ → List ℕ → List ℕ → ℕ → Type 0
HasTaken width a b old new column = (c : ℕ) → c / 64 < column → HasBit width old b c → HasBit width new a c

module _ (width : ℕ) (old mid new : List ℕ) (a b j : ℕ) (added grown : Bool) (within : j < width) (long : a * width + j < length mid) (is : new ≡ with_word mid (a * width + j) (b * width + j))
    (more : added ≡ true → total mid < total new) (same : added ≡ false → new ≡ mid) (grows : Grows width old mid grown) where
  pub row_grows : Grows width old new (grown || added)
  row_grows = grows_more width old mid new grown added (grown || added) refl grows (record { kept = word_kept width mid new a b j within long is; more = more; same = same })

  pub row_gains : GainsFrom width a b old mid → GainsFrom width a b old new
  row_gains gains = gains_more width a b old mid new gains (word_gains width mid new a b j within long is)

  pub row_taken : HasTaken width a b old mid j → HasTaken width a b old new (j + 1)
  row_taken taken c column has = elim (cases_eq (c / 64) j) [
    | inl here ↦ word_taken width mid new a b j within long is c here (grows.kept b c has)
    | inr apart ↦ word_kept width mid new a b j within long is a c (taken c (omega (arith, column, apart)) has)
  ]

-- the measure of passes falls
falls : (top old new : ℕ) (grown : Bool) → new ≤ top → (grown ≡ true → old < new) → (grown ≡ false → new ≡ old) → (top - new) + cond grown 1 0 < (top - old) + 1
falls top old new true within more same = let rises = more refl in omega (arith, rises, within)
falls top old new false within more same = let stays = same refl in omega (arith, stays)

pub pass_falls : (m width : ℕ) (old new : List ℕ) (was grown : Bool) → was ≡ true → length new ≡ length old → All (λ w. w ≤ m) new → Grows width old new grown
    → (length new * m - total new) + cond grown 1 0 < (length old * m - total old) + cond was 1 0
pass_falls m width old new was grown again long each grows =
    subst (λ (b : Bool). (length new * m - total new) + cond grown 1 0 < (length old * m - total old) + cond b 1 0) (sym again)
    (subst (λ (n : ℕ). (length new * m - total new) + cond grown 1 0 < (n * m - total old) + 1) long
    (falls (length new * m) (total old) (total new) grown (total_within m new each) grows.more (λ none. ap total (grows.same none))))

-- own bits
module _ (width : ℕ) (old new : List ℕ) (a : ℕ) (column : a / 64 < width) (long : a * width + a / 64 < length old)
    (is : new ≡ set old (a * width + a / 64) (bit_or (get_or old (a * width + a / 64) 0) (1 * 2 ^ (a % 64) % 2 ^ 64))) where
  own_there : get_or new (a * width + a / 64) 0 ≡ bit_or (get_or old (a * width + a / 64) 0) (1 * 2 ^ (a % 64) % 2 ^ 64)
  own_there = ap (λ (ws : List ℕ). get_or ws (a * width + a / 64) 0) is ∙ get_or-set_same old (a * width + a / 64) _ 0 long

  own_other : (k : ℕ) → k ≢ a * width + a / 64 → get_or new k 0 ≡ get_or old k 0
  own_other k apart = ap (λ (ws : List ℕ). get_or ws k 0) is ∙ get_or-set_other old (a * width + a / 64) k _ 0 apart

  pub own_set : HasBit width new a a
  own_set = bit_from width new a a (ap (λ (w : ℕ). bit_at w (a % 64)) own_there ∙ bit_at_set_same w64 (get_or old (a * width + a / 64) 0) (a % 64) (omega arith))

  pub own_kept : (x c : ℕ) → HasBit width old x c → HasBit width new x c
  own_kept x c has = elim (cases_eq (x * width + c / 64) (a * width + a / 64)) [
    | inl same ↦
        let bit : bit_at (get_or old (a * width + a / 64) 0) (c % 64) ≡ 1 = ap (λ (k : ℕ). bit_at (get_or old k 0) (c % 64)) (sym same) ∙ bit_is width old x c has in
        bit_from width new x c (ap (λ (k : ℕ). bit_at (get_or new k 0) (c % 64)) same ∙ ap (λ (w : ℕ). bit_at w (c % 64)) own_there ∙ or_left _ _ (c % 64) bit)
    | inr apart ↦ bit_from width new x c (ap (λ (w : ℕ). bit_at w (c % 64)) (own_other (x * width + c / 64) apart) ∙ bit_is width old x c has)
  ]

  pub own_only : IsOwnOnly width old → IsOwnOnly width new
  own_only only x c within has = elim (cases_eq (x * width + c / 64) (a * width + a / 64)) [
    | inl same ↦
        let at : (x ≡ a) × (c / 64 ≡ a / 64) = same_from_place x (c / 64) a (a / 64) width within column same in
        elim (cases_eq (c % 64) (a % 64)) [
          | inl bit ↦ let one : x ≡ a = at.0 in let quotient = at.1 in omega (arith, one, quotient, bit)
          | inr other ↦ only x c within (bit_from width old x c (ap (λ (k : ℕ). bit_at (get_or old k 0) (c % 64)) same
              ∙ sym (bit_at_set_other w64 (get_or old (a * width + a / 64) 0) (a % 64) (omega arith) (c % 64) other) ∙ ap (λ (w : ℕ). bit_at w (c % 64)) (sym own_there)
              ∙ ap (λ (k : ℕ). bit_at (get_or new k 0) (c % 64)) (sym same) ∙ bit_is width new x c has))
        ]
    | inr apart ↦ only x c within (bit_from width old x c (ap (λ (w : ℕ). bit_at w (c % 64)) (sym (own_other (x * width + c / 64) apart)) ∙ bit_is width new x c has))
  ]

pub none_own : (width : ℕ) (bits : List ℕ) → All (λ w. w ≡ 0) bits → IsOwnOnly width bits
none_own width bits zeros a b within has =
    let k = a * width + b / 64 in
    let zero_is : get_or bits k 0 ≡ 0 = elim (cases_lt k (length bits)) [ inl below ↦ zeros k 0 below | inr past ↦ get_or_past bits k 0 past ] in
    absurd (let bit = bit_is width bits a b has in let none : bit_at (get_or bits k 0) (b % 64) ≡ 0 = ap (λ (w : ℕ). bit_at w (b % 64)) zero_is ∙ bit_at-zero (b % 64) in omega (arith, bit, none))

-- a row has a word for each node
pub column_within : (count width : ℕ) (bits : List ℕ) (b : ℕ) → IsShaped count width bits → b < count → b / 64 < width
column_within count width bits b shape column = div_below b 64 width (omega arith) (omega (arith, shape.wide, column))
