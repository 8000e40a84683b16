-- Places of an ordered set, as numbers.
use Rattle.std.proofs.Common.{zero, suc, ◌∙◌, ◌≡◌, ℕ, ◌<◌, ◌-◌, ◌+◌, List, [], ◌∷◌, ◌++◌, Bool, true, false, Option, None, Some, IfSome, sym, ap, refl, if◌then◌else◌, length, get_or, set, take, arith, inl, inr}
use Rattle.std.specs.Prelude.{Contains, position, slice_get, swap, swap_remove}
use Rattle.std.specs.List.{list_any}
use Rattle.std.proofs.lemmas.List.{length-set, length-take-le, length_push, get_or-set_same, get_or-set_other, get_or-take, get_or_push, get_or_append_left, get_or_default, same_lists}
use Rattle.std.proofs.lemmas.List.Edits.{swap_is}
use Rattle.std.proofs.lemmas.List.Quantifiers.{position-Some}
use Rattle.indexmap.specs.IndexSet.{insert_key}
use Rattle.indexmap.proofs.CallerLemmas.{Contains-list_any}
use Rattle.ifds_model.specs.State.{At}
use Rattle.edge_store.proofs.Listed.{same_number_or_not}

module _ {X : Type 0} (eq : X → X → Bool) (exact : (x y : X) → eq x y ≡ true → x ≡ y) (xs : List X) (x : X) where
  -- the place that a look-up finds is the item's
  pub there : (r : Option ℕ) → r ≡ position (eq x) xs → IfSome r (λ n. At xs n x)
  there None is = tt
  there (Some n) is = let found = position-Some (eq x) xs n x (sym is) in (found.0, sym (exact x _ found.1))

  -- a new item goes last
  pub insert_new : (Contains xs x → ⊥) → insert_key eq xs x ≡ xs ++ x ∷ []
  insert_new fresh = by (list_any (eq x) xs) refl
    where
      by : (b : Bool) → list_any (eq x) xs ≡ b → insert_key eq xs x ≡ xs ++ x ∷ []
      by true found = absurd (fresh (Contains-list_any eq exact xs x found))
      by false none = ap (λ (b : Bool). if b then xs else xs ++ x ∷ []) none

module _ {X : Type 0} (xs : List X) (i : ℕ) (p y : X) (within : i < length xs) where
  last : ℕ
  last = length xs - 1

  moved : List X
  moved = set xs i (get_or xs (length xs - 1) p)

  joined : List X
  joined = take (length xs - 1) (set xs i (get_or xs (length xs - 1) p)) ++ y ∷ []

  -- the last item goes to the place, the new one goes last, and the two are exchanged
  pub replaced : swap (swap_remove xs i p ++ y ∷ []) i (length xs - 1) ≡ set xs i y
  unfolding joined moved last
  replaced =
      let n : ℕ = length xs - 1 in
      let mid : List X = set xs i (get_or xs n p) in
      let front : List X = take n mid in
      let ys : List X = front ++ y ∷ [] in
      let long : length mid ≡ length xs = length-set xs i (get_or xs n p) in
      let short : length front ≡ n = length-take-le n mid (omega arith) in
      let full : length ys ≡ n + 1 = length_push front y ∙ ap (λ (k : ℕ). k + 1) short in
      let at_end : get_or ys n p ≡ y = get_or_push front y p n short in
      let out : List X = set (set ys i (get_or ys n p)) n (get_or ys i p) in
      let out_long : length out ≡ n + 1 = length-set (set ys i (get_or ys n p)) n (get_or ys i p) ∙ length-set ys i (get_or ys n p) ∙ full in
      let goal_long : length (set xs i y) ≡ length xs = length-set xs i y in
      let before : (k : ℕ) (d : X) → k < n → get_or ys k d ≡ get_or mid k d = λ k d below. get_or_append_left front (y ∷ []) d k (omega arith) ∙ get_or-take n mid k d below in
      sym (swap_is ys i n p (omega arith) (omega arith)) ∙ same_lists out (set xs i y) (omega arith) (λ k d inside.
      elim (same_number_or_not k n) [
        | inl at ↦ elim (same_number_or_not i n) [
          | inl also ↦ ap (λ (j : ℕ). get_or out j d) at ∙ get_or-set_same (set ys i (get_or ys n p)) n (get_or ys i p) d (let e : length (set ys i (get_or ys n p)) ≡ length ys = length-set ys i (get_or ys n p) in omega arith) ∙ ap (λ (j : ℕ). get_or ys j p) also ∙ at_end ∙ sym (ap (λ (j : ℕ). get_or (set xs i y) j d) (at ∙ sym also) ∙ get_or-set_same xs i y d within)
          | inr apart ↦ ap (λ (j : ℕ). get_or out j d) at ∙ get_or-set_same (set ys i (get_or ys n p)) n (get_or ys i p) d (let e : length (set ys i (get_or ys n p)) ≡ length ys = length-set ys i (get_or ys n p) in omega arith) ∙ before i p (omega arith) ∙ get_or-set_same xs i (get_or xs n p) p within ∙ get_or_default xs n p d (omega arith) ∙ sym (ap (λ (j : ℕ). get_or (set xs i y) j d) at ∙ get_or-set_other xs i n y d (λ e. apart (sym e)))
        ]
        | inr inner ↦ get_or-set_other (set ys i (get_or ys n p)) n k (get_or ys i p) d inner ∙ elim (same_number_or_not k i) [
          | inl at ↦ ap (λ (j : ℕ). get_or (set ys i (get_or ys n p)) j d) at ∙ get_or-set_same ys i (get_or ys n p) d (omega arith) ∙ at_end ∙ sym (ap (λ (j : ℕ). get_or (set xs i y) j d) at ∙ get_or-set_same xs i y d within)
          | inr apart ↦ get_or-set_other ys i k (get_or ys n p) d apart ∙ before k d (omega arith) ∙ get_or-set_other xs i k (get_or xs n p) d apart ∙ sym (get_or-set_other xs i k y d apart)
        ]
      ])

  -- what was taken out is something
  pub taken_is : (r : Option X) → r ≡ slice_get xs i → (zs : List X) → IfSome r (λ k. zs ≡ swap_remove xs i k) → (k : X) × (zs ≡ swap_remove xs i k)
  taken_is None is zs keys = absurd (by xs i within is)
    where
      by : (ys : List X) (j : ℕ) → j < length ys → (let o : Option X = None in o ≡ slice_get ys j) → ⊥
      by [] j small e = omega arith
      by (y ∷ ys) zero small e = cc
      by (y ∷ ys) (suc j) small e = by ys j (omega arith) e
  taken_is (Some k) is zs keys = (k, keys)
