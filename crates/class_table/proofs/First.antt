-- The first place where something stands.
use Rattle.std.proofs.Common.{◌≡◌, ◌⊎◌, zero, suc, List, [], ◌∷◌, ◌++◌, map, Option, Some, refl, ap, subst, inl, inr, arith}
use Rattle.std.specs.Prelude.{Contains}
use Rattle.class_table.specs.Firsts.{FirstOf, nowhere, here, later}
use Rattle.class_table.proofs.Along.{or_else}
use Rattle.class_table.proofs.Signed.{none_some}

none_there : {X : Type 0} (x : X) → Contains [] x → ⊥
none_there x (k, below, is) = omega (arith, below)

cons_cases : {X : Type 0} (x : X) (xs : List X) (y : X) → Contains (x ∷ xs) y → (x ≡ y) ⊎ Contains xs y
cons_cases x xs y (zero, below, is) = inl is
cons_cases x xs y (suc k, below, is) = inr (k, (omega (arith, below)), is)

head_there : {X : Type 0} (x : X) (xs : List X) → Contains (x ∷ xs) x
head_there x xs = (0, (omega arith), refl)

tail_there : {X : Type 0} (x : X) (xs : List X) (y : X) → Contains xs y → Contains (x ∷ xs) y
tail_there x xs y (k, below, is) = (suc k, (omega (arith, below)), is)

module _ {A X : Type 0} (Lacks : A → Type 0) (Has : A → X → Type 0) where
  abbrev First : List A → Option X → Type 0
  First xs r = FirstOf Lacks Has xs r

  -- one item more
  pub first_one : (a : A) (xs : List A) (o r : Option X) → First (a ∷ []) o → First xs r → First (a ∷ xs) (or_else o r)
  first_one a xs o r (here it) rest = here it
  first_one a xs o r (later lack nowhere) rest = later lack rest

  -- what one item has
  pub first_of_one : (a : A) (r : Option X) (x : X) → First (a ∷ []) r → r ≡ Some x → Has a x
  first_of_one a r x (here {x = y} it) is = let same : y ≡ x = cc in subst (Has a) same it
  first_of_one a r x (later lack nowhere) is = absurd (none_some x is)

  -- where something is found first, and where it would have been found
  pub first_split : (xs : List A) (r : Option X) (x : X) → First xs r → r ≡ Some x → (before : List A) × (place : A) × (behind : List A) × (xs ≡ before ++ place ∷ behind) × ((a : A) → Contains before a → Lacks a) × Has place x
  first_split [] r x nowhere is = absurd (none_some x is)
  first_split (a ∷ xs) r x (here {x = y} it) is = let same : y ≡ x = cc in ([], a, xs, refl, (λ b has. absurd (none_there b has)), subst (Has a) same it)
  first_split (a ∷ xs) r x (later lack rest) is = by (first_split xs r x rest is) where
    by : ((before : List A) × (place : A) × (behind : List A) × (xs ≡ before ++ place ∷ behind) × ((b : A) → Contains before b → Lacks b) × Has place x)
        → (before : List A) × (place : A) × (behind : List A) × (a ∷ xs ≡ before ++ place ∷ behind) × ((b : A) → Contains before b → Lacks b) × Has place x
    by (before, place, behind, parts, lacks, it) = (a ∷ before, place, behind, ap (λ (zs : List A). a ∷ zs) parts, (λ b has. cases b (cons_cases a before b has)), it) where
      cases : (b : A) → (a ≡ b) ⊎ Contains before b → Lacks b
      cases b (inl same) = subst Lacks same lack
      cases b (inr inside) = lacks b inside

  pub first_meets : (before : List A) (place : A) (behind : List A) (r : Option X) → (Lacks place → ⊥) → ((a : A) → Contains before a → (x : X) → Has a x → ⊥) → First (before ++ place ∷ behind) r → (x : X) × (r ≡ Some x) × Has place x
  first_meets [] place behind r there none (here {x = x} it) = (x, refl, it)
  first_meets [] place behind r there none (later lack rest) = absurd (there lack)
  first_meets (b ∷ before) place behind r there none (here {x = x} it) = absurd (none b (head_there b before) x it)
  first_meets (b ∷ before) place behind r there none (later lack rest) = first_meets before place behind r there (λ a has. none a (tail_there b before a has)) rest

-- the same of what items stand for
pub first_map : {A B X : Type 0} (f : A → B) (Lacks : B → Type 0) (Has : B → X → Type 0) (xs : List A) (r : Option X) → FirstOf (λ (a : A). Lacks (f a)) (λ (a : A). Has (f a)) xs r → FirstOf Lacks Has (map f xs) r
first_map f Lacks Has [] r nowhere = nowhere
first_map f Lacks Has (x ∷ xs) r (here it) = here it
first_map f Lacks Has (x ∷ xs) r (later lack rest) = later lack (first_map f Lacks Has xs r rest)
