-- Pairs of brackets, one after another.
use Rattle.std.proofs.Common.{◌≡◌, ℕ, zero, suc, ◌+◌, List, ◌++◌, codes, refl, ap, ◌∙◌, sym, append_assoc, add-one}
use Rattle.jimple_tree.specs.Printed.{brackets}

brackets-suc : (n : ℕ) → brackets (suc n) ≡ brackets n ++ codes "[]"
brackets-suc zero = refl
brackets-suc (suc n) = ap (λ (xs : List ℕ). codes "[]" ++ xs) (brackets-suc n)

-- one pair more
pub brackets_more : (old out new : List ℕ) (n : ℕ) → out ≡ old ++ brackets n → new ≡ out ++ codes "[]" → new ≡ old ++ brackets (n + 1)
brackets_more old out new n so_far more =
    more ∙ ap (λ (xs : List ℕ). xs ++ codes "[]") so_far ∙ append_assoc old (brackets n) (codes "[]") ∙ ap (λ (xs : List ℕ). old ++ xs) (sym (rw add-one (brackets-suc n)))
