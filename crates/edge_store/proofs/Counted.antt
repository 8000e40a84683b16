-- Numbers of members of sets.
use Rattle.std.proofs.Common.{◌≡◌, ℕ, zero, suc, ◌+◌, ◌<◌, List, [], ◌∷◌, ◌++◌, length, get_or, sym, ap, subst, ◌∙◌, arith, inl, inr, ◌⊎◌, refl, cond}
use Rattle.std.specs.Prelude.{Contains, count_by, nat_lt}
use Rattle.std.proofs.lemmas.List.{length_push}
use Rattle.std.proofs.lemmas.List.Sums.{sum_by-cons}
use Rattle.std.proofs.lemmas.List.Elements.{Contains-push_cases, Contains-append_left, Contains-push}
use Rattle.ifds_model.specs.Runs.{HasCount}
use Rattle.ifds_model.specs.State.{At, IsDistinct}
use Rattle.edge_store.specs.Pool.{UsedFact}
use Rattle.edge_store.proofs.Listed.{distinct_push}

-- counts of sets
module _ {X : Type 0} (P Q : X → Type 0) (n : ℕ) where
  pub count_same : ((x : X) → P x → Q x) → ((x : X) → Q x → P x) → HasCount P n → HasCount Q n
  count_same to back c = (c.0, record { distinct = c.1.distinct; sound = λ x has. to x (c.1.sound x has); whole = λ x q. c.1.whole x (back x q) }, c.2)

  pub count_more : (y : X) → ((x : X) → P x → Q x) → ((x : X) → Q x → P x ⊎ (x ≡ y)) → Q y → (P y → ⊥) → HasCount P n → HasCount Q (n + 1)
  count_more y to from there fresh c = (
    c.0 ++ y ∷ [],
    record {
      distinct = distinct_push c.0 y c.1.distinct (λ has. fresh (c.1.sound y has));
      sound = λ x has. elim (Contains-push_cases c.0 y x has) [
        | inl old ↦ to x (c.1.sound x old)
        | inr same ↦ subst Q same there
      ];
      whole = λ x q. elim (from x q) [
        | inl p ↦ Contains-append_left c.0 (y ∷ []) x (c.1.whole x p)
        | inr same ↦ subst (Contains (c.0 ++ y ∷ [])) (sym same) (Contains-push c.0 y)
      ];
    },
    length_push c.0 y ∙ ap (λ (k : ℕ). k + 1) c.2,
  )

pub count_none : {X : Type 0} (P : X → Type 0) → ((x : X) → P x → ⊥) → HasCount P 0
count_none P none = ([], record { distinct = λ i j d below within same. omega arith; sound = λ x has. absurd (let k = has.1 in omega arith); whole = λ x p. absurd (none x p) }, refl)

counts_one : (c : ℕ) → cond {A = ℕ} (nat_lt 0 (suc c)) 1 0 ≡ 1
counts_one c = grind arith

-- the facts that have uses are as many as the counts above 0
pub count_used : {F : Type 0} (facts : List F) (counts : List ℕ) → length counts ≡ length facts → IsDistinct facts → HasCount (UsedFact facts counts) (count_by (λ c. nat_lt 0 c) counts)
count_used [] [] even distinct = count_none (UsedFact [] []) (λ f used. omega (arith, used.1.0))
count_used [] (c ∷ counts) even distinct = absurd (omega arith)
count_used (f ∷ facts) [] even distinct = absurd (omega arith)
count_used {F} (f ∷ facts) (zero ∷ counts) even distinct =
    let rest = count_used facts counts (omega arith) (λ i j d below within. distinct (suc i) (suc j) d (omega arith) (omega arith)) in
    let same : count_by (λ c. nat_lt 0 c) counts ≡ count_by (λ c. nat_lt 0 c) (0 ∷ counts) = (let e = sum_by-cons (λ (c : ℕ). cond {A = ℕ} (nat_lt 0 c) 1 0) 0 counts in omega arith) in
    subst (HasCount (UsedFact (f ∷ facts) (0 ∷ counts))) same
    (count_same (UsedFact facts counts) (UsedFact (f ∷ facts) (0 ∷ counts)) (count_by (λ c. nat_lt 0 c) counts) (λ g used. further used) (λ g used. nearer g used.0 used.1 used.2) rest)
  where
    further : {g : F} → UsedFact facts counts g → UsedFact (f ∷ facts) (0 ∷ counts) g
    further used = (suc used.0, (omega (arith, used.1.0), used.1.1), used.2)

    nearer : (g : F) (n : ℕ) → At (f ∷ facts) n g → 0 < get_or (0 ∷ counts) n 0 → UsedFact facts counts g
    nearer g zero at some = absurd (omega arith)
    nearer g (suc n) at some = (n, (omega (arith, at.0), at.1), some)
count_used {F} (f ∷ facts) (suc c ∷ counts) even distinct =
    let rest = count_used facts counts (omega arith) (λ i j d below within. distinct (suc i) (suc j) d (omega arith) (omega arith)) in
    let same : count_by (λ k. nat_lt 0 k) counts + 1 ≡ count_by (λ k. nat_lt 0 k) (suc c ∷ counts) = (let e = sum_by-cons (λ (k : ℕ). cond {A = ℕ} (nat_lt 0 k) 1 0) (suc c) counts in let one = counts_one c in omega arith) in
    subst (HasCount (UsedFact (f ∷ facts) (suc c ∷ counts))) same
    (count_more (UsedFact facts counts) (UsedFact (f ∷ facts) (suc c ∷ counts)) (count_by (λ k. nat_lt 0 k) counts) f (λ g used. (suc used.0, (omega (arith, used.1.0), used.1.1), used.2)) (λ g used. nearer g used.0 used.1 used.2)
    (0, (omega arith, refl), omega arith) (λ used. distinct 0 (suc used.0) f (omega arith) (omega (arith, used.1.0)) (sym used.1.1)) rest)
  where
    nearer : (g : F) (n : ℕ) → At (f ∷ facts) n g → 0 < get_or (suc c ∷ counts) n 0 → UsedFact facts counts g ⊎ (g ≡ f)
    nearer g zero at some = inr (sym at.1)
    nearer g (suc n) at some = inl (n, (omega (arith, at.0), at.1), some)
