-- Named places have growing numbers.
use Rattle.std.proofs.Common.{◌≡◌, ℕ, zero, suc, ◌+◌, ◌-◌, ◌<◌, ◌≤◌, Bool, true, false, cond, ap, arith}
use Rattle.jimple_tree.specs.Labels.{is_named, label_number, named_below}
use Rattle.jimple_tree.specs.declared.tree.Body.{Body}

-- one place more
one_more : (b : Body) (n : ℕ) → named_below b n ≤ named_below b (suc n)
unfolding named_below
one_more b n = omega arith

pub at_most : (b : Body) (n : ℕ) → named_below b n ≤ n
unfolding named_below
at_most b zero = omega arith
at_most b (suc n) = by_case (is_named b n) (at_most b n) where
  by_case : (c : Bool) → named_below b n ≤ n → named_below b n + cond c 1 0 ≤ suc n
  by_case true h = omega (arith, h)
  by_case false h = omega (arith, h)

grows_by : (b : Body) (n k : ℕ) → named_below b n ≤ named_below b (n + k)
grows_by b n zero = let e : n + 0 ≡ n = omega arith in rw e (omega arith)
grows_by b n (suc k) = let e : n + suc k ≡ suc (n + k) = omega arith in let h = grows_by b n k in let g = one_more b (n + k) in rw e (omega (arith, h, g))

more_named : (b : Body) (n : ℕ) → is_named b n ≡ true → named_below b (suc n) ≡ named_below b n + 1
unfolding named_below
more_named b n e = ap (λ (c : Bool). named_below b n + cond c 1 0) e

pub number_grows : (b : Body) (p q : ℕ) → p < q → is_named b q ≡ true → label_number b p < label_number b q
number_grows b p q less e = go (q - suc p) (omega (arith, less)) where
  go : (k : ℕ) → q ≡ suc p + k → named_below b (p + 1) < named_below b (q + 1)
  go k is =
      let grown = grows_by b (suc p) k in
      let more = more_named b q e in
      let low : p + 1 ≡ suc p = omega arith in
      let high : q + 1 ≡ suc q = omega arith in
      let same : named_below b q ≡ named_below b (suc p + k) = ap (named_below b) is in
      rw (low, high) (omega (arith, grown, more, same))

pub number_small : (b : Body) (p : ℕ) → label_number b p ≤ p + 1
number_small b p = at_most b (p + 1)
