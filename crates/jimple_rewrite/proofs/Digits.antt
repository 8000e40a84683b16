-- The digits of a number write that number.
use Rattle.std.proofs.Common.{◌≡◌, ℕ, zero, suc, ◌+◌, ◌-◌, ◌*◌, ◌/◌, ◌%◌, ◌<◌, ◌^◌, Bool, true, false, cond, List, [], ◌∷◌, decimal, sym, ap, refl, ◌∙◌, arith}
use Rattle.std.specs.Prelude.{◌==◌}
use Rattle.std.specs.Fmt.{digits, digits_onto, digit_glyph}
use Rattle.std.proofs.Math.Nat.{mod-lt}
use Rattle.std.proofs.lemmas.Bool.{eqb-true}
use Rattle.jimple_tree.specs.Labels.{label_text}
use Rattle.jimple_words.specs.Kinds.{read_digits}
use Rattle.std.proofs.Common.{drop}

-- ten as often multiplied
abbrev tens : ℕ → ℕ
tens zero = 1
tens (suc k) = 10 * tens k

glyph_digit : (d : ℕ) → d < 10 → digit_glyph false d - 48 ≡ d
glyph_digit d h = grind arith

divided : (n : ℕ) → (n / 10) * 10 + n % 10 ≡ n
divided n = omega arith

fewer : (n m : ℕ) → n < 10 * m → n / 10 < m
fewer n m h = omega (arith, h)

rest_digit : (n : ℕ) → n % 10 < 10
rest_digit n = mod-lt n (omega arith)

read_onto : (k n : ℕ) (later : List ℕ) → n < tens k → read_digits 0 (digits_onto k 10 false n later) ≡ read_digits n later
read_onto zero n later h = let none : 0 ≡ n = omega (arith, h) in ap (λ (m : ℕ). read_digits m later) none
read_onto (suc k) n later h = by_case (n / 10 == 0) refl (read_onto k (n / 10) (digit_glyph false (n % 10) ∷ later) (fewer n (tens k) h)) where
  glyph : digit_glyph false (n % 10) - 48 ≡ n % 10
  glyph = glyph_digit (n % 10) (rest_digit n)

  whole : n / 10 * 10 + (digit_glyph false (n % 10) - 48) ≡ n
  whole = ap (λ (d : ℕ). n / 10 * 10 + d) glyph ∙ divided n

  by_case : (b : Bool) → (n / 10 == 0) ≡ b → read_digits 0 (digits_onto k 10 false (n / 10) (digit_glyph false (n % 10) ∷ later)) ≡ read_digits (n / 10) (digit_glyph false (n % 10) ∷ later)
      → read_digits 0 (cond b (digit_glyph false (n % 10) ∷ later) (digits_onto k 10 false (n / 10) (digit_glyph false (n % 10) ∷ later))) ≡ read_digits n later
  by_case true e r = let none = eqb-true (n / 10) 0 e in ap (λ (m : ℕ). read_digits (m * 10 + (digit_glyph false (n % 10) - 48)) later) (sym none) ∙ ap (λ (m : ℕ). read_digits m later) whole
  by_case false e r = r ∙ ap (λ (m : ℕ). read_digits m later) whole

pub read_decimal : (n : ℕ) → n < 2 ^ 64 → read_digits 0 (decimal n) ≡ n
unfolding digits
read_decimal n h = read_onto 64 n [] (omega (arith, h))

-- labels of different numbers have different texts
pub label_apart : (m n : ℕ) → m < 2 ^ 64 → n < 2 ^ 64 → label_text m ≡ label_text n → m ≡ n
unfolding label_text
label_apart m n h k e = sym (read_decimal m h) ∙ ap (λ (t : List ℕ). read_digits 0 (drop 5 t)) e ∙ read_decimal n k
