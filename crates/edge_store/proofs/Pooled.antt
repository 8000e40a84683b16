-- The counts of a pool, step by step.
use Rattle.std.proofs.Common.{true, refl, ◌≡◌, ◌≢◌, ℕ, ◌+◌, ◌-◌, ◌<◌, ◌≤◌, ◌^◌, List, [], ◌∷◌, ◌++◌, length, get_or, set, cond, sym, ap, ◌∙◌, arith, inl, inr}
use Rattle.std.specs.Prelude.{Contains, nat_lt}
use Rattle.std.proofs.lemmas.List.{length-set, length_push, get_or-set_other, get_or_push, get_or_append_left, get_or_past}
use Rattle.std.proofs.lemmas.List.Sums.{sum_by-set, sum_by_push, get_or-le-sum_by, count_by-le-length}
use Rattle.edge_store.specs.Pool.{IsPool, KeepsUsed}
use Rattle.edge_store.proofs.Listed.{distinct_push, distinct_set, same_number_or_not}

pub positive : (n : ℕ) → 0 < n → nat_lt 0 n ≡ true
positive n h = grind arith

module _ {F : Type 0} (facts : List F) (counts : List ℕ) (live used n : ℕ) (pool : IsPool facts counts live used) where
  -- a use is among all uses
  pub within_used : n < length facts → get_or counts n 0 ≤ used
  within_used small = let even : length counts ≡ length facts = pool.even in omega (arith, get_or-le-sum_by (λ (x : ℕ). x) counts n 0 (omega arith), pool.uses)

  pub few_live : live ≤ 2 ^ 32
  few_live = omega (arith, count_by-le-length (λ (c : ℕ). nat_lt 0 c) counts, pool.even, pool.small, pool.living)

  -- a number with uses is a fact's
  pub used_within : 0 < get_or counts n 0 → n < length facts
  used_within some =
      elim (same_number_or_not (length counts - n) 0) [
        | inl past ↦ absurd (let none : get_or counts n 0 ≡ 0 = get_or_past counts n 0 (omega arith) in omega arith)
        | inr inside ↦ omega (arith, pool.even)
      ]

  -- one count is another
  pub recount : (count : ℕ) → n < length facts → (live' used' : ℕ) → used' + get_or counts n 0 ≡ used + count
      → live' + cond (nat_lt 0 (get_or counts n 0)) 1 0 ≡ live + cond (nat_lt 0 count) 1 0 → IsPool facts (set counts n count) live' used'
  recount count small live' used' uses lives =
      let even : length counts ≡ length facts = pool.even in
      record {
        even = length-set counts n count ∙ pool.even;
        distinct = pool.distinct;
        small = pool.small;
        living = omega (arith, sum_by-set (λ (c : ℕ). cond (nat_lt 0 c) 1 0) counts n count 0 (omega arith), pool.living);
        uses = omega (arith, sum_by-set (λ (x : ℕ). x) counts n count 0 (omega arith), pool.uses);
      }

  -- a new fact takes a number without uses
  pub fact_put : (f : F) → (Contains facts f → ⊥) → IsPool (set facts n f) counts live used
  fact_put f fresh = record {
    even = pool.even ∙ sym (length-set facts n f);
    distinct = distinct_set facts n f pool.distinct fresh;
    small = let same : length (set facts n f) ≡ length facts = length-set facts n f in omega (arith, pool.small);
    living = pool.living;
    uses = pool.uses;
  }

  -- or the next number
  pub fact_added : (f : F) → (Contains facts f → ⊥) → length facts < 2 ^ 32 → IsPool (facts ++ f ∷ []) (counts ++ 0 ∷ []) live used
  fact_added f fresh few =
      let more : length (facts ++ f ∷ []) ≡ length facts + 1 = length_push facts f in
      let more_counts : length (counts ++ 0 ∷ []) ≡ length counts + 1 = length_push counts 0 in
      record {
        even = omega (arith, pool.even);
        distinct = distinct_push facts f pool.distinct fresh;
        small = omega arith;
        living = omega (arith, sum_by_push (λ (c : ℕ). cond (nat_lt 0 c) 1 0) counts 0, pool.living);
        uses = omega (arith, sum_by_push (λ (x : ℕ). x) counts 0, pool.uses);
      }

  -- no used fact moves
  pub put_keeps : (f : F) → get_or counts n 0 ≡ 0 → KeepsUsed counts facts (set facts n f)
  put_keeps f none k g some at =
      let apart : k ≢ n = λ e. (let same : get_or counts k 0 ≡ get_or counts n 0 = ap (λ (j : ℕ). get_or counts j 0) e in omega arith) in
      let long : length (set facts n f) ≡ length facts = length-set facts n f in
      (omega (arith, at.0), get_or-set_other facts n k f g apart ∙ at.1)

  pub put_back : (f : F) → get_or counts n 0 ≡ 0 → KeepsUsed counts (set facts n f) facts
  put_back f none k g some at =
      let apart : k ≢ n = λ e. (let same : get_or counts k 0 ≡ get_or counts n 0 = ap (λ (j : ℕ). get_or counts j 0) e in omega arith) in
      let long : length (set facts n f) ≡ length facts = length-set facts n f in
      (omega (arith, at.0), sym (get_or-set_other facts n k f g apart) ∙ at.1)

  pub add_keeps : (f : F) → KeepsUsed counts facts (facts ++ f ∷ [])
  add_keeps f k g some at =
      let more : length (facts ++ f ∷ []) ≡ length facts + 1 = length_push facts f in
      (omega (arith, at.0), get_or_append_left facts (f ∷ []) g k at.0 ∙ at.1)

module _ {F : Type 0} (facts : List F) (counts : List ℕ) (live used : ℕ) (pool : IsPool facts counts live used) where
  pub add_back : (f : F) → KeepsUsed counts (facts ++ f ∷ []) facts
  add_back f k g some at =
      let inside : k < length facts = used_within facts counts live used k pool some in
      (inside, sym (get_or_append_left facts (f ∷ []) g k inside) ∙ at.1)

  -- the further number has no uses
  pub counts_added : (n : ℕ) → get_or (counts ++ 0 ∷ []) n 0 ≡ get_or counts n 0
  counts_added n = elim (same_number_or_not (length counts - n) 0) [
    | inl past ↦ elim (same_number_or_not n (length counts)) [
      | inl at ↦ ap (λ (j : ℕ). get_or (counts ++ 0 ∷ []) j 0) at ∙ get_or_push counts 0 0 (length counts) (refl) ∙ sym (get_or_past counts n 0 (omega arith))
      | inr far ↦ get_or_past (counts ++ 0 ∷ []) n 0 (let more : length (counts ++ 0 ∷ []) ≡ length counts + 1 = length_push counts 0 in omega arith) ∙ sym (get_or_past counts n 0 (omega arith))
    ]
    | inr inside ↦ get_or_append_left counts (0 ∷ []) 0 n (omega arith)
  ]
