-- Items that go into a list one after another, each once.
use Rattle.std.proofs.Common.{◌≡◌, ◌≢◌, ◌<◌, ◌⊎◌, ℕ, Bool, true, false, List, [], ◌∷◌, ◌++◌, length, get_or, zero, suc, fold, if◌then◌else◌, Some, refl, sym, ap, subst, ◌∙◌, inl, inr, arith, true≢false, append_assoc}
use Rattle.std.specs.Prelude.{Contains, position}
use Rattle.std.specs.List.{list_any}
use Rattle.std.proofs.lemmas.List.{append-nil, get_or_append_left, get_or_at, length-append}
use Rattle.std.proofs.lemmas.List.Elements.{Contains-get_or, Contains-append_left, Contains-push}
use Rattle.std.proofs.lemmas.List.Folds.{list_any_at}
use Rattle.std.proofs.lemmas.List.Sums.{fold-append}
use Rattle.std.proofs.lemmas.List.Quantifiers.{position-Some, all_pairs_push}
use Rattle.indexmap.specs.IndexSet.{insert_key, insert_all}
use Rattle.indexmap.proofs.CallerLemmas.{Contains-list_any}
use Rattle.clean_base.specs.Lists.{At, IsDistinct}

-- an item stands at one place
pub one_place : {X : Type 0} (xs : List X) → IsDistinct xs → (i j : ℕ) (x : X) → At xs i x → At xs j x → i ≡ j
one_place xs distinct i j x at other = by (order i j) where
  order : (i j : ℕ) → (i < j) ⊎ ((j < i) ⊎ (i ≡ j))
  order i j = grind arith

  by : (i < j) ⊎ ((j < i) ⊎ (i ≡ j)) → i ≡ j
  by (inl less) = absurd (distinct i j x less other.0 (at.1 ∙ sym other.1))
  by (inr (inl more)) = absurd (distinct j i x more at.0 (other.1 ∙ sym at.1))
  by (inr (inr same)) = same

-- a list without repeats stays so with one more item that it lacks
pub distinct_push : {X : Type 0} (xs : List X) (y : X) → IsDistinct xs → (Contains xs y → ⊥) → IsDistinct (xs ++ y ∷ [])
distinct_push xs y distinct lacks =
    all_pairs_push (λ a b. a ≢ b) xs y distinct (λ k d below same. lacks (subst (Contains xs) same (Contains-get_or xs k d below)))

-- what tells equal items apart from others
abbrev pub Tells : {X : Type 0} → (X → X → Bool) → Type 0
Tells {X} eq = (x y : X) → (eq x y ≡ true → x ≡ y) × (x ≡ y → eq x y ≡ true)

module _ {X : Type 0} (eq : X → X → Bool) (tells : Tells eq) where
  -- a test that passes is about an item of the list, and one that fails isn't
  pub any_has : (xs : List X) (x : X) → list_any (eq x) xs ≡ true → Contains xs x
  any_has xs x passes = Contains-list_any eq (λ a b. (tells a b).0) xs x passes

  pub any_lacks : (xs : List X) (x : X) → list_any (eq x) xs ≡ false → Contains xs x → ⊥
  any_lacks xs x fails (k, below, at) = true≢false (sym (list_any_at (eq x) xs k x below ((tells x (get_or xs k x)).1 (sym at))) ∙ fails)

  pub lacks_any : (xs : List X) (x : X) → (Contains xs x → ⊥) → list_any (eq x) xs ≡ false
  lacks_any xs x lacks = by (list_any (eq x) xs) refl where
    by : (b : Bool) → list_any (eq x) xs ≡ b → list_any (eq x) xs ≡ false
    by true passes = absurd (lacks (any_has xs x passes))
    by false fails = fails

  -- an item goes in at the end where the list lacks it
  pub insert_new : (ks : List X) (x : X) → (Contains ks x → ⊥) → insert_key eq ks x ≡ ks ++ x ∷ []
  insert_new ks x lacks = ap (λ (b : Bool). if b then ks else ks ++ x ∷ []) (lacks_any ks x lacks)

  pub insert_known : (ks : List X) (x : X) → list_any (eq x) ks ≡ true → insert_key eq ks x ≡ ks
  insert_known ks x passes = ap (λ (b : Bool). if b then ks else ks ++ x ∷ []) passes

  -- by cases: the list stays, or it lacked the item
  pub insert_cases : (P : List X → Type 0) (ks : List X) (x : X) → (Contains ks x → P ks) → ((Contains ks x → ⊥) → P (ks ++ x ∷ [])) → P (insert_key eq ks x)
  insert_cases P ks x known new = by (list_any (eq x) ks) refl where
    by : (b : Bool) → list_any (eq x) ks ≡ b → P (insert_key eq ks x)
    by true passes = subst P (sym (insert_known ks x passes)) (known (any_has ks x passes))
    by false fails = subst P (sym (insert_new ks x (any_lacks ks x fails))) (new (any_lacks ks x fails))

  -- the list is a front of what it becomes
  pub all_front : (ks xs : List X) → (more : List X) × (insert_all eq ks xs ≡ ks ++ more)
  all_front ks [] = ([], sym (append-nil ks))
  all_front ks (x ∷ xs) =
      let one : (more : List X) × (insert_key eq ks x ≡ ks ++ more) = insert_cases (λ (l : List X). (more : List X) × (l ≡ ks ++ more)) ks x (λ _. ([], sym (append-nil ks))) (λ _. (x ∷ [], refl)) in
      let rest = all_front (insert_key eq ks x) xs in
      (one.0 ++ rest.0, rest.1 ∙ ap (λ (l : List X). l ++ rest.0) one.1 ∙ append_assoc ks one.0 rest.0)

  -- no item goes in twice
  pub all_distinct : (ks xs : List X) → IsDistinct ks → IsDistinct (insert_all eq ks xs)
  all_distinct ks [] distinct = distinct
  all_distinct ks (x ∷ xs) distinct = all_distinct (insert_key eq ks x) xs (insert_cases (λ (l : List X). IsDistinct l) ks x (λ _. distinct) (λ lacks. distinct_push ks x distinct lacks))

  -- and each one is in
  pub all_old : (ks xs : List X) (x : X) → Contains ks x → Contains (insert_all eq ks xs) x
  all_old ks xs x has = let front = all_front ks xs in subst (λ (l : List X). Contains l x) (sym front.1) (Contains-append_left ks front.0 x has)

  pub all_new : (ks xs : List X) (x : X) → Contains xs x → Contains (insert_all eq ks xs) x
  all_new ks [] x (k, below, at) = absurd (omega (arith, below))
  all_new ks (y ∷ xs) x (zero, below, at) =
      all_old (insert_key eq ks y) xs x (subst (Contains (insert_key eq ks y)) at (insert_cases (λ (l : List X). Contains l y) ks y (λ has. has) (λ _. Contains-push ks y)))
  all_new ks (y ∷ xs) x (suc k, below, at) = all_new (insert_key eq ks y) xs x (k, (let less = below in omega (arith, less)), at)

  -- items without a repeat go in as they are
  pub all_fresh : (ks xs : List X) → IsDistinct (ks ++ xs) → insert_all eq ks xs ≡ ks ++ xs
  all_fresh ks [] distinct = sym (append-nil ks)
  all_fresh ks (x ∷ xs) distinct =
      let lacks : Contains ks x → ⊥ = λ has. distinct has.0 (length ks) x has.1 (let e = length-append ks (x ∷ xs) in omega (arith, e)) (get_or_append_left ks (x ∷ xs) x has.0 has.1 ∙ has.2 ∙ sym (get_or_at ks x xs x (length ks) refl)) in
      let again : IsDistinct ((ks ++ x ∷ []) ++ xs) = subst (λ (l : List X). IsDistinct l) (sym (append_assoc ks (x ∷ []) xs)) distinct in
      ap (λ (l : List X). fold (insert_key eq) l xs) (insert_new ks x lacks) ∙ all_fresh (ks ++ x ∷ []) xs again ∙ append_assoc ks (x ∷ []) xs

  -- the place that a search finds is the item's, and it finds one where the list has the item
  pub position_at : (xs : List X) (x : X) (i : ℕ) → position (eq x) xs ≡ Some i → At xs i x
  position_at xs x i is = let found = position-Some (eq x) xs i x is in (found.0, sym ((tells x (get_or xs i x)).0 found.1))

  -- a front without a repeat stands as it is
  pub front_kept : (xs ys : List X) → IsDistinct xs → (more : List X) × (insert_all eq [] (xs ++ ys) ≡ xs ++ more)
  front_kept xs ys distinct =
      let rest = all_front (insert_all eq [] xs) ys in
      (rest.0, fold-append (insert_key eq) [] xs ys ∙ rest.1 ∙ ap (λ (l : List X). l ++ rest.0) (all_fresh [] xs distinct))

  -- the next item stands behind them just where it is new
  pub next_new : (xs : List X) (x : X) (ys : List X) → IsDistinct xs → (Contains xs x → ⊥) → At (insert_all eq [] (xs ++ x ∷ ys)) (length xs) x
  next_new xs x ys distinct lacks =
      let front = front_kept (xs ++ x ∷ []) ys (distinct_push xs x distinct lacks) in
      let is : insert_all eq [] (xs ++ x ∷ ys) ≡ xs ++ x ∷ front.0 = ap (insert_all eq []) (sym (append_assoc xs (x ∷ []) ys)) ∙ front.1 ∙ append_assoc xs (x ∷ []) front.0 in
      let long = length-append xs (x ∷ front.0) in
      subst (λ (l : List X). At l (length xs) x) (sym is) ((omega (arith, long)), get_or_at xs x front.0 x (length xs) refl)

  pub next_known : (xs : List X) (x : X) (ys : List X) → IsDistinct xs → At (insert_all eq [] (xs ++ x ∷ ys)) (length xs) x → Contains xs x → ⊥
  next_known xs x ys distinct at (k, below, same) =
      let front = front_kept xs (x ∷ ys) distinct in
      let keys = insert_all eq [] (xs ++ x ∷ ys) in
      let earlier : At keys k x = subst (λ (l : List X). At l k x) (sym front.1) ((let long = length-append xs front.0 in omega (arith, long, below)), get_or_append_left xs front.0 x k below ∙ same) in
      let one : k ≡ length xs = one_place keys (all_distinct [] (xs ++ x ∷ ys) (λ i j d less within. absurd (omega (arith, within)))) k (length xs) x earlier at in
      omega (arith, one, below)
