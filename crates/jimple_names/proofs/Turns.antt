-- The first fault of a list's items, from its front.
use Rattle.std.proofs.Common.{◌≡◌, ℕ, ◌+◌, ◌<◌, ◌≤◌, List, [], ◌∷◌, ◌++◌, length, take, drop, Option, Some, None, refl, sym, ◌∙◌, ap, append-nil, append_assoc}
use Rattle.std.proofs.Math.ListN.{get_or}
use Rattle.std.proofs.lemmas.List.{take_more, drop_more, drop_all, take-append-drop}
use Rattle.jimple_names.specs.declared.stop.NameFault.{NameFault}
use Rattle.jimple_names.specs.Faults.{◌or◌, first, in_turn}

pub or_assoc : (a b c : Option NameFault) → ((a or b) or c) ≡ (a or b or c)
or_assoc None b c = refl
or_assoc (Some f) b c = refl

pub or_none : (a : Option NameFault) → (a or None) ≡ a
or_none None = refl
or_none (Some f) = refl

-- the first of two lists
pub in_turn_append : {A : Type 0} (f : List A → A → Option NameFault) (before xs ys : List A) → in_turn f before (xs ++ ys) ≡ (in_turn f before xs or in_turn f (before ++ xs) ys)
in_turn_append f before [] ys = ap (λ (zs : List _). in_turn f zs ys) (sym (append-nil before))
in_turn_append f before (x ∷ xs) ys =
    ap (λ (r : Option NameFault). f before x or r) (in_turn_append f (before ++ x ∷ []) xs ys ∙ ap (λ (zs : List _). in_turn f (before ++ x ∷ []) xs or in_turn f zs ys) (append_assoc before (x ∷ []) xs))
    ∙ sym (or_assoc (f before x) (in_turn f (before ++ x ∷ []) xs) (in_turn f (before ++ x ∷ xs) ys))

module _ {A : Type 0} (xs : List A) (i : ℕ) (x : A) (less : i < length xs) (at : x ≡ get_or xs i x) where
  pub here : drop i xs ≡ x ∷ drop (i + 1) xs
  here = drop_more xs i x less ∙ ap (λ (y : A). y ∷ drop (i + 1) xs) (sym at)

  pub more : take (i + 1) xs ≡ take i xs ++ x ∷ []
  more = take_more xs i x less ∙ ap (λ (y : A). take i xs ++ y ∷ []) (sym at)

  pub split : (front : List A) → front ++ xs ≡ (front ++ take i xs) ++ x ∷ drop (i + 1) xs
  split front = ap (λ (ys : List A). front ++ ys) (sym (take-append-drop i xs) ∙ ap (λ (ys : List A). take i xs ++ ys) here) ∙ sym (append_assoc front (take i xs) (x ∷ drop (i + 1) xs))

  module _ (f : List A → A → Option NameFault) (front : List A) (total : Option NameFault) (is : total ≡ in_turn f (front ++ take i xs) (drop i xs)) where
    turned : total ≡ (f (front ++ take i xs) x or in_turn f (front ++ take (i + 1) xs) (drop (i + 1) xs))
    turned = is ∙ ap (in_turn f (front ++ take i xs)) here
        ∙ ap (λ (zs : List A). f (front ++ take i xs) x or in_turn f zs (drop (i + 1) xs)) (append_assoc front (take i xs) (x ∷ []) ∙ ap (λ (ys : List A). front ++ ys) (sym more))

    pub turn_more : f (front ++ take i xs) x ≡ None → total ≡ in_turn f (front ++ take (i + 1) xs) (drop (i + 1) xs)
    turn_more none = turned ∙ ap (λ (r : Option NameFault). r or in_turn f (front ++ take (i + 1) xs) (drop (i + 1) xs)) none

    pub turn_fault : (e : NameFault) → f (front ++ take i xs) x ≡ Some e → total ≡ Some e
    turn_fault e some = turned ∙ ap (λ (r : Option NameFault). r or in_turn f (front ++ take (i + 1) xs) (drop (i + 1) xs)) some

  module _ (f : A → Option NameFault) (total : Option NameFault) (is : total ≡ first f (drop i xs)) where
    pub first_more : f x ≡ None → total ≡ first f (drop (i + 1) xs)
    first_more none = is ∙ ap (first f) here ∙ ap (λ (r : Option NameFault). r or first f (drop (i + 1) xs)) none

    pub first_fault : (e : NameFault) → f x ≡ Some e → total ≡ Some e
    first_fault e some = is ∙ ap (first f) here ∙ ap (λ (r : Option NameFault). r or first f (drop (i + 1) xs)) some

pub turn_end : {A : Type 0} (f : List A → A → Option NameFault) (xs front : List A) (i : ℕ) (total : Option NameFault) → length xs ≤ i → total ≡ in_turn f (front ++ take i xs) (drop i xs) → total ≡ None
turn_end f xs front i total past is = is ∙ ap (in_turn f (front ++ take i xs)) (drop_all i xs past)

pub first_end : {A : Type 0} (f : A → Option NameFault) (xs : List A) (i : ℕ) (total : Option NameFault) → length xs ≤ i → total ≡ first f (drop i xs) → total ≡ None
first_end f xs i total past is = is ∙ ap (first f) (drop_all i xs past)
