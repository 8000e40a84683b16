-- One name more.
use Rattle.std.proofs.Common.{◌≡◌, ◌⊎◌, ◌↔◌, ◌<◌, ◌+◌, ℕ, Bool, true, false, cond, nat_eq, List, [], ◌∷◌, ◌++◌, length, get_or, take, refl, sym, ap, subst, ◌∙◌, inl, inr, arith, true≢false}
use Rattle.std.specs.Prelude.{Contains}
use Rattle.std.specs.List.Sorted.{IsStrictlyIncreasing}
use Rattle.std.proofs.lemmas.List.{length-append, length-take-le, get_or_append_left, get_or_push, take_more}
use Rattle.std.proofs.lemmas.List.Elements.{Contains-append_left, Contains-get_or, Contains-push, Contains-push_cases}
use lib.Pointwise.{pointwise, bytes_decides}
use Rattle.clean_base.specs.Lists.{At}
use Rattle.name_index.specs.Index.{IsIndex, places_of}
use Rattle.name_index.specs.declared.index.NameIndex.{NameIndex}

same_or_less : (k n : ℕ) → k < n + 1 → (k < n) ⊎ (k ≡ n)
same_or_less k n h = grind arith

module _ {X : Type 0} (xs : List X) (x : X) where
  pub at_early : (k : ℕ) (y : X) → At xs k y → At (xs ++ x ∷ []) k y
  at_early k y (below, is) = (let long = length-append xs (x ∷ []) in omega (arith, long, below), get_or_append_left xs (x ∷ []) y k below ∙ is)

  pub at_last : (y : X) → x ≡ y → At (xs ++ x ∷ []) (length xs) y
  at_last y same = (let long = length-append xs (x ∷ []) in omega (arith, long), get_or_push xs x y (length xs) refl ∙ same)

  pub at_either : (k : ℕ) (y : X) → At (xs ++ x ∷ []) k y → At xs k y ⊎ ((k ≡ length xs) × (x ≡ y))
  at_either k y (below, is) = elim (same_or_less k (length xs) (let long = length-append xs (x ∷ []) in omega (arith, long, below))) [
    | inl less ↦ inl (less, sym (get_or_append_left xs (x ∷ []) y k less) ∙ is)
    | inr here ↦ inr (here, sym (get_or_push xs x y k (sym here)) ∙ is)
  ]

-- the places of a name, where it is the new one or another
abbrev Then : Bool → ℕ → List ℕ → List ℕ
Then b place places = cond b (places ++ place ∷ []) places

rises : (places : List ℕ) (place : ℕ) → IsStrictlyIncreasing places → ((k : ℕ) → Contains places k → k < place) → (b : Bool) → IsStrictlyIncreasing (Then b place places)
rises places place up low false = up
rises places place up low true = λ k below. by k (cases k (let long = length-append places (place ∷ []) in omega (arith, long, below))) where
  cases : (k : ℕ) → k + 1 < length places + 1 → (k + 1 < length places) ⊎ (k + 1 ≡ length places)
  cases k h = grind arith

  early : (k : ℕ) → k < length places → get_or (places ++ place ∷ []) k 0 ≡ get_or places k 0
  early k less = get_or_append_left places (place ∷ []) 0 k less

  by : (k : ℕ) → (k + 1 < length places) ⊎ (k + 1 ≡ length places) → get_or (places ++ place ∷ []) k 0 < get_or (places ++ place ∷ []) (k + 1) 0
  by k (inl less) = let a = early k (omega (arith, less)) in let b = early (k + 1) less in let c = up k less in omega (arith, a, b, c)
  by k (inr last) =
      let less : k < length places = omega (arith, last) in
      let a = early k less in
      let b = get_or_push places place 0 (k + 1) (sym last) in
      let c = low (get_or places k 0) (Contains-get_or places k 0 less) in
      omega (arith, a, b, c)

added : (names : List (List ℕ)) (name : List ℕ) (place : ℕ) (old new : NameIndex) → length names ≡ place
    → ((other : List ℕ) → places_of new other ≡ Then (pointwise nat_eq name other) place (places_of old other))
    → IsIndex names old → IsIndex (names ++ name ∷ []) new
added names name place old new count adds is = record {
  exact = λ other k. subst (λ (places : List ℕ). Contains places k ↔ At (names ++ name ∷ []) k other) (sym (adds other)) (by other k (pointwise nat_eq name other) refl);
  ascending = λ other. subst IsStrictlyIncreasing (sym (adds other)) (rises (places_of old other) place (is.ascending other) (λ k has. let below = ((is.exact other k).0 has).0 in omega (arith, below, count)) (pointwise nat_eq name other));
} where
  by : (other : List ℕ) (k : ℕ) (b : Bool) → pointwise nat_eq name other ≡ b → Contains (Then b place (places_of old other)) k ↔ At (names ++ name ∷ []) k other
  by other k true same = (to, from) where
    to : Contains (places_of old other ++ place ∷ []) k → At (names ++ name ∷ []) k other
    to has = elim (Contains-push_cases (places_of old other) place k has) [
      | inl early ↦ at_early names name k other ((is.exact other k).0 early)
      | inr here ↦ subst (λ (i : ℕ). At (names ++ name ∷ []) i other) (count ∙ here) (at_last names name other ((bytes_decides name other).0 same))
    ]

    from : At (names ++ name ∷ []) k other → Contains (places_of old other ++ place ∷ []) k
    from at = elim (at_either names name k other at) [
      | inl early ↦ Contains-append_left (places_of old other) (place ∷ []) k ((is.exact other k).1 early)
      | inr last ↦ subst (Contains (places_of old other ++ place ∷ [])) (sym count ∙ sym last.0) (Contains-push (places_of old other) place)
    ]
  by other k false differs = (λ has. at_early names name k other ((is.exact other k).0 has), from) where
    from : At (names ++ name ∷ []) k other → Contains (places_of old other) k
    from at = elim (at_either names name k other at) [
      | inl early ↦ (is.exact other k).1 early
      | inr last ↦ absurd (true≢false (sym ((bytes_decides name other).1 last.1) ∙ differs))
    ]

pub added_at : (names : List (List ℕ)) (name : List ℕ) (place : ℕ) (old new : NameIndex) → At names place name
    → ((other : List ℕ) → places_of new other ≡ Then (pointwise nat_eq name other) place (places_of old other))
    → IsIndex (take place names) old → IsIndex (take (place + 1) names) new
added_at names name place old new at adds is =
    let below = at.0 in
    let next : take (place + 1) names ≡ take place names ++ name ∷ [] = take_more names place name below ∙ ap (λ (n : List ℕ). take place names ++ n ∷ []) at.1 in
    subst (λ (ns : List (List ℕ)). IsIndex ns new) (sym next) (added (take place names) name place old new (length-take-le place names (omega (arith, below))) adds is)
