-- The first place of a list's items that pass a test.
use Rattle.std.proofs.Common.{◌≡◌, ℕ, suc, ◌+◌, ◌-◌, ◌<◌, ◌≤◌, Bool, true, false, List, [], ◌∷◌, map, length, Option, Some, None, refl, sym, ◌∙◌, ap, arith}
use Rattle.std.specs.List.{find, position, position_from}
use Rattle.std.proofs.Math.ListN.{get_or}
use Rattle.std.proofs.lemmas.Iterator.Adapters.{position_from-zero}

pub from_zero : {A : Type 0} (p : A → Bool) (xs : List A) → position p xs ≡ position_from p 0 xs
from_zero p xs = position_from-zero p xs

pub of_images : {A B : Type 0} (f : A → B) (p : B → Bool) (n : ℕ) (xs : List A) → position_from p n (map f xs) ≡ position_from (λ x. p (f x)) n xs
of_images f p n [] = refl
of_images f p n (x ∷ xs) = rw (of_images f p (n + 1) xs) refl

some_is : {A : Type 0} (x y : A) → ◌≡◌ {A = Option A} (Some x) (Some y) → x ≡ y
some_is x y e = cc

-- the place of an item of the list
pub is_inside : {A : Type 0} (p : A → Bool) (from n : ℕ) (xs : List A) → position_from p from xs ≡ Some n → (from ≤ n) × (n < from + length xs)
is_inside p from n [] e = let bad : ◌≡◌ {A = Option ℕ} None (Some n) = e in absurd cc
is_inside p from n (x ∷ xs) e = of (p x) refl (is_inside p (from + 1) n xs) where
  of : (b : Bool) → p x ≡ b → (position_from p (from + 1) xs ≡ Some n → (from + 1 ≤ n) × (n < from + 1 + length xs)) → (from ≤ n) × (n < from + length (x ∷ xs))
  of true q h = let same : from ≡ n = some_is from n (sym (rw q refl) ∙ e) in (omega (arith, same), omega (arith, same))
  of false q h = let more = h (sym (rw q refl) ∙ e) in let low = more.0 in let high = more.1 in (omega (arith, low), omega (arith, high))

-- the item at that place
pub is_found : {A : Type 0} (p : A → Bool) (from n : ℕ) (xs : List A) (d : A) → position_from p from xs ≡ Some n → find p xs ≡ Some (get_or xs (n - from) d)
is_found p from n [] d e = let bad : ◌≡◌ {A = Option ℕ} None (Some n) = e in absurd cc
is_found {A} p from n (x ∷ xs) d e = of (p x) refl (is_found p (from + 1) n xs d) where
  of : (b : Bool) → p x ≡ b → (position_from p (from + 1) xs ≡ Some n → find p xs ≡ Some (get_or xs (n - (from + 1)) d)) → find p (x ∷ xs) ≡ Some (get_or (x ∷ xs) (n - from) d)
  of true q h =
      let same : from ≡ n = some_is from n (sym (rw q refl) ∙ e) in
      let none : n - from ≡ 0 = omega (arith, same) in
      rw (q, none) refl
  of false q h =
      let later : position_from p (from + 1) xs ≡ Some n = sym (rw q refl) ∙ e in
      let low = (is_inside p (from + 1) n xs later).0 in
      let one : n - from ≡ suc (n - (from + 1)) = omega (arith, low) in
      rw (q, one) (h later)

-- none is found
pub is_missing : {A : Type 0} (p : A → Bool) (from : ℕ) (xs : List A) → position_from p from xs ≡ None → find p xs ≡ None
is_missing p from [] e = refl
is_missing p from (x ∷ xs) e = of (p x) refl (is_missing p (from + 1) xs) where
  of : (b : Bool) → p x ≡ b → (position_from p (from + 1) xs ≡ None → find p xs ≡ None) → find p (x ∷ xs) ≡ None
  of true q h = let bad : ◌≡◌ {A = Option ℕ} (Some from) None = sym (rw q refl) ∙ e in absurd cc
  of false q h = rw q (h (sym (rw q refl) ∙ e))

pub images : {A B : Type 0} (f : A → B) (p : B → Bool) (xs : List A) → position_from (λ x. p (f x)) 0 xs ≡ position p (map f xs)
images f p xs = sym (from_zero p (map f xs) ∙ of_images f p 0 xs)

pub is_here : {A : Type 0} (p : A → Bool) (n : ℕ) (xs : List A) (d : A) → position p xs ≡ Some n → find p xs ≡ Some (get_or xs n d)
is_here p n xs d e = let same : n - 0 ≡ n = omega arith in is_found p 0 n xs d (sym (from_zero p xs) ∙ e) ∙ ap (λ (m : ℕ). Some (get_or xs m d)) same

pub is_nowhere : {A : Type 0} (p : A → Bool) (xs : List A) → position p xs ≡ None → find p xs ≡ None
is_nowhere p xs e = is_missing p 0 xs (sym (from_zero p xs) ∙ e)
