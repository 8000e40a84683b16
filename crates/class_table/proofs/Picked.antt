-- Where the items of filtered, mapped and joined lists stand.
use Rattle.std.proofs.Common.{◌≡◌, ◌⊎◌, ◌<◌, ◌≤◌, ◌+◌, ◌-◌, ℕ, zero, suc, Bool, true, false, cond, List, [], ◌∷◌, length, get_or, map, take, refl, sym, ap, subst, ◌∙◌, inl, inr, arith}
use Rattle.std.specs.Prelude.{filter, flat_map}
use Rattle.std.proofs.lemmas.List.{length-append, get_or_append_left, get_or-append_right}
use Rattle.std.proofs.lemmas.List.Concat.{get_or-flat_map}
use Rattle.std.proofs.lemmas.List.Folds.{length-flat_map-take}
use Rattle.clean_base.specs.Lists.{At}

left_or_right : (n m : ℕ) → (n < m) ⊎ (m ≤ n)
left_or_right n m = grind arith

module _ {X Y : Type 0} (f : X → List Y) where
  pub flat_at : (xs : List X) (p : ℕ) (x : X) (j : ℕ) (y : Y) → At xs p x → At (f x) j y → At (flat_map f xs) (length (flat_map f (take p xs)) + j) y
  flat_at xs p x j y at here =
      let own : f (get_or xs p x) ≡ f x = ap f at.1 in
      let within : j < length (f (get_or xs p x)) = subst (λ (ys : List Y). j < length ys) (sym own) here.0 in
      let less = length-flat_map-take f xs p x at.0 in
      ((omega (arith, within, less)), get_or-flat_map f xs p j x y at.0 within ∙ ap (λ (ys : List Y). get_or ys j y) own ∙ here.1)

  -- an item of the whole is an item of a part
  pub flat_from : (xs : List X) (n : ℕ) (y : Y) → At (flat_map f xs) n y → (p : ℕ) × (x : X) × (j : ℕ) × At xs p x × At (f x) j y × (n ≡ length (flat_map f (take p xs)) + j)
  flat_from [] n y at = absurd (let below = at.0 in omega (arith, below))
  flat_from (x ∷ xs) n y at = elim (left_or_right n (length (f x))) [
    | inl mine ↦ (zero, x, n, (omega arith, refl), (mine, sym (get_or_append_left (f x) (flat_map f xs) y n mine) ∙ at.1), omega arith)
    | inr past ↦
        let both = length-append (f x) (flat_map f xs) in
        let below = at.0 in
        behind past (flat_from xs (n - length (f x)) y ((omega (arith, both, below, past)), sym (get_or-append_right (f x) (flat_map f xs) (length (f x)) n y refl past) ∙ at.1))
  ] where
    Part : List X → ℕ → Type 0
    Part zs n = (p : ℕ) × (x : X) × (j : ℕ) × At zs p x × At (f x) j y × (n ≡ length (flat_map f (take p zs)) + j)

    behind : length (f x) ≤ n → Part xs (n - length (f x)) → Part (x ∷ xs) n
    behind past (p, z, j, (below, there), here, number) =
        let long = length-append (f x) (flat_map f (take p xs)) in
        (suc p, z, j, ((omega (arith, below)), there), here, omega (arith, number, long, past))

  -- and of one part alone
  pub one_part : (xs : List X) (p q i j : ℕ) (x y : X) → At xs p x → At xs q y → i < length (f x) → j < length (f y) → length (flat_map f (take p xs)) + i ≡ length (flat_map f (take q xs)) + j → p ≡ q
  one_part [] p q i j x y at there mine its same = absurd (let below = at.0 in omega (arith, below))
  one_part (z ∷ zs) zero zero i j x y at there mine its same = refl
  one_part (z ∷ zs) zero (suc q) i j x y at there mine its same =
      let own = ap (λ (w : X). length (f w)) at.1 in
      let long = length-append (f z) (flat_map f (take q zs)) in
      absurd (omega (arith, own, long, mine, same))
  one_part (z ∷ zs) (suc p) zero i j x y at there mine its same =
      let own = ap (λ (w : X). length (f w)) there.1 in
      let long = length-append (f z) (flat_map f (take p zs)) in
      absurd (omega (arith, own, long, its, same))
  one_part (z ∷ zs) (suc p) (suc q) i j x y (below, is) (within, was) mine its same =
      let one = length-append (f z) (flat_map f (take p zs)) in
      let other = length-append (f z) (flat_map f (take q zs)) in
      ap (λ (n : ℕ). suc n) (one_part zs p q i j x y ((omega (arith, below)), is) ((omega (arith, within)), was) mine its (omega (arith, one, other, same)))

module _ {X : Type 0} (test : X → Bool) where
  pub filter_at : (xs : List X) (k : ℕ) (x : X) → At xs k x → test x ≡ true → At (filter test xs) (length (filter test (take k xs))) x
  filter_at [] k x at passes = absurd (let below = at.0 in omega (arith, below))
  filter_at (y ∷ ys) zero x at passes =
      let chosen : filter test (y ∷ ys) ≡ y ∷ filter test ys = ap (λ (b : Bool). cond b (y ∷ filter test ys) (filter test ys)) (ap test at.1 ∙ passes) in
      subst (λ (zs : List X). At zs zero x) (sym chosen) ((omega arith), at.1)
  filter_at (y ∷ ys) (suc k) x at passes = by (test y) (filter_at ys k x ((let below = at.0 in omega (arith, below)), at.1) passes) where
    by : (b : Bool) → At (filter test ys) (length (filter test (take k ys))) x → At (cond b (y ∷ filter test ys) (filter test ys)) (length (cond b (y ∷ filter test (take k ys)) (filter test (take k ys)))) x
    by true there = ((let below = there.0 in omega (arith, below)), there.1)
    by false there = there

  -- an item that is left passes
  pub filter_from : (xs : List X) (n : ℕ) (x : X) → At (filter test xs) n x → (k : ℕ) × At xs k x × (test x ≡ true) × (n ≡ length (filter test (take k xs)))
  filter_from [] n x at = absurd (let below = at.0 in omega (arith, below))
  filter_from (y ∷ ys) n x at = by (test y) refl n at (filter_from ys) where
    Comes : ℕ → Type 0
    Comes n = (k : ℕ) × At (y ∷ ys) k x × (test x ≡ true) × (n ≡ length (filter test (take k (y ∷ ys))))

    counted : (b : Bool) (zs : List X) → length (cond b (y ∷ zs) zs) ≡ length (cond b (y ∷ []) []) + length zs
    counted true zs = omega arith
    counted false zs = omega arith

    later : (b : Bool) → test y ≡ b → (n : ℕ) → ((k : ℕ) × At ys k x × (test x ≡ true) × (n ≡ length (filter test (take k ys)))) → Comes (length (cond b (y ∷ []) []) + n)
    later b is n (k, there, passes, number) =
        let inside = there.0 in
        let long : length (filter test (take (suc k) (y ∷ ys))) ≡ length (cond b (y ∷ []) []) + length (filter test (take k ys)) =
        ap (λ (b : Bool). length (cond b (y ∷ filter test (take k ys)) (filter test (take k ys)))) is ∙ counted b (filter test (take k ys)) in
        (suc k, ((omega (arith, inside)), there.1), passes, omega (arith, number, long))

    by : (b : Bool) → test y ≡ b → (n : ℕ) → At (cond b (y ∷ filter test ys) (filter test ys)) n x
        → ((n : ℕ) (x : X) → At (filter test ys) n x → (k : ℕ) × At ys k x × (test x ≡ true) × (n ≡ length (filter test (take k ys)))) → Comes n
    by true is zero (below, here) rest = (zero, ((omega arith), here), sym (ap test here) ∙ is, refl)
    by true is (suc n) (below, there) rest = subst Comes (omega arith) (later true is n (rest n x ((omega (arith, below)), there)))
    by false is n there rest = subst Comes (omega arith) (later false is n (rest n x there))

  -- a front has no more of them
  pub filter_take : (xs : List X) (k : ℕ) → length (filter test (take k xs)) ≤ length (filter test xs)
  filter_take xs zero = omega arith
  filter_take [] (suc k) = omega arith
  filter_take (x ∷ xs) (suc k) = by (test x) (filter_take xs k) where
    by : (b : Bool) → length (filter test (take k xs)) ≤ length (filter test xs) → length (cond b (x ∷ filter test (take k xs)) (filter test (take k xs))) ≤ length (cond b (x ∷ filter test xs) (filter test xs))
    by true few = omega (arith, few)
    by false few = few

module _ {X Y : Type 0} where
  pub pair_at : (x : X) (ys : List Y) (k : ℕ) (y : Y) → At ys k y → At {X = X × Y} (map (λ (z : Y). (x, z)) ys) k (x, y)
  pair_at x [] k y at = absurd (let below = at.0 in omega (arith, below))
  pair_at x (z ∷ ys) zero y at = ((omega arith), ap (λ (z : Y). (x, z)) at.1)
  pair_at x (z ∷ ys) (suc k) y at =
      let here : At ys k y = ((let below = at.0 in omega (arith, below)), at.1) in
      let rest = pair_at x ys k y here in
      ((let below = rest.0 in omega (arith, below)), rest.1)

  pub pair_from : (x : X) (ys : List Y) (k : ℕ) (w : X) (y : Y) → At {X = X × Y} (map (λ (z : Y). (x, z)) ys) k (w, y) → (x ≡ w) × At ys k y
  pair_from x [] k w y at = absurd (let below = at.0 in omega (arith, below))
  pair_from x (z ∷ ys) zero w y at = (ap (λ (p : X × Y). p.0) at.1, ((omega arith), ap (λ (p : X × Y). p.1) at.1))
  pair_from x (z ∷ ys) (suc k) w y at =
      let here : At {X = X × Y} (map (λ (z : Y). (x, z)) ys) k (w, y) = ((let below = at.0 in omega (arith, below)), at.1) in
      let rest = pair_from x ys k w y here in
      (rest.0, ((let below = rest.1.0 in omega (arith, below)), rest.1.1))
