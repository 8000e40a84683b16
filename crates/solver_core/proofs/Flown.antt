-- Workers' hands: how many have something, and what a write to one of them does.
use Rattle.std.specs.Prelude.{◌≡◌, ◌≤◌, ◌<◌, ℕ, zero, suc, ◌+◌, List, [], ◌∷◌, ◌++◌, length, take, map, slice_set, slice_index_or, Contains, Option, Some, None}
use Rattle.std.proofs.Common.{arith, sym, ◌∙◌, ap, inl, inr, get_or}
use Rattle.std.proofs.lemmas.List.{length-map, get_or-map, take_more}
use Rattle.ifds_model.specs.Count.{cons_cases}
use Rattle.ifds_model.specs.State.{At}
use Rattle.solver_core.specs.Hands.{in_hand}

module _ {X : Type 0} where
  pub in_hand_push : (xs : List (Option X)) (x : Option X) → in_hand (xs ++ x ∷ []) ≡ in_hand xs + in_hand (x ∷ [])
  in_hand_push [] x = omega arith
  in_hand_push (None ∷ xs) x = in_hand_push xs x
  in_hand_push (Some y ∷ xs) x = omega (arith, in_hand_push xs x)

  -- one more of them
  pub in_hand_more : (xs : List (Option X)) (i : ℕ) (x : Option X) → i < length xs → x ≡ get_or xs i x → in_hand (take (i + 1) xs) ≡ in_hand (take i xs) + in_hand (x ∷ [])
  in_hand_more xs i x below is = ap in_hand (take_more xs i x below ∙ ap (λ (z : Option X). take i xs ++ z ∷ []) (sym is)) ∙ in_hand_push (take i xs) x

  pub in_hand_few : (xs : List (Option X)) → in_hand xs ≤ length xs
  in_hand_few [] = omega arith
  in_hand_few (None ∷ xs) = omega (arith, in_hand_few xs)
  in_hand_few (Some y ∷ xs) = omega (arith, in_hand_few xs)

  pub in_hand_some : (xs : List (Option X)) (w : ℕ) (v : X) → At xs w None → in_hand (slice_set xs w (Some v)) ≡ in_hand xs + 1
  in_hand_some [] w v at = absurd (omega (arith, at.0))
  in_hand_some (None ∷ xs) zero v at = omega arith
  in_hand_some (Some y ∷ xs) zero v at = let other = at.1 in cc (other)
  in_hand_some (None ∷ xs) (suc w) v at = in_hand_some xs w v (omega (arith, at.0), at.1)
  in_hand_some (Some y ∷ xs) (suc w) v at = omega (arith, in_hand_some xs w v (omega (arith, at.0), at.1))

  pub in_hand_none : (xs : List (Option X)) (w : ℕ) (v : X) → At xs w (Some v) → in_hand (slice_set xs w None) + 1 ≡ in_hand xs
  in_hand_none [] w v at = absurd (omega (arith, at.0))
  in_hand_none (Some y ∷ xs) zero v at = omega arith
  in_hand_none (None ∷ xs) zero v at = let other = at.1 in cc (other)
  in_hand_none (None ∷ xs) (suc w) v at = in_hand_none xs w v (omega (arith, at.0), at.1)
  in_hand_none (Some y ∷ xs) (suc w) v at = omega (arith, in_hand_none xs w v (omega (arith, at.0), at.1))

  pub none_in_hand : (xs : List (Option X)) (v : X) → in_hand xs ≡ 0 → Contains xs (Some v) → ⊥
  none_in_hand [] v none has = omega (arith, has.1)
  none_in_hand (Some y ∷ xs) v none has = omega (arith, none)
  none_in_hand (None ∷ xs) v none has = elim (cons_cases None xs (Some v) has) [ inl same ↦ cc (same) | inr later ↦ none_in_hand xs v none later ]

module _ {X Y : Type 0} (f : X → Y) where
  pub at_map : (xs : List X) (n : ℕ) (x : X) → At xs n x → At (map f xs) n (f x)
  at_map xs n x at = (omega (arith, length-map xs f, at.0), get_or-map f xs n x (f x) at.0 ∙ ap f at.1)

  pub at_map_from : (xs : List X) (n : ℕ) (y : Y) (d : X) → At (map f xs) n y → (n < length xs) × (f (slice_index_or xs n d) ≡ y)
  at_map_from xs n y d at = let below : n < length xs = omega (arith, length-map xs f, at.0) in (below, sym (get_or-map f xs n d y below) ∙ at.1)
