-- Places of an ordered set, as numbers.
use Rattle.std.proofs.Common.{not, true≢false, ◌∙◌, ◌≡◌, ℕ, List, [], ◌∷◌, ◌++◌, Bool, true, false, Option, None, Some, IfSome, sym, ap, refl, if◌then◌else◌}
use Rattle.std.specs.Prelude.{Contains, position}
use Rattle.std.specs.List.{list_any}
use Rattle.std.proofs.lemmas.List.Quantifiers.{position-Some}
use Rattle.indexmap.specs.IndexSet.{insert_key}
use Rattle.indexmap.proofs.CallerLemmas.{Contains-list_any}
use Rattle.ifds_model.specs.State.{At}

module _ {X : Type 0} (eq : X → X → Bool) (exact : (x y : X) → eq x y ≡ true → x ≡ y) (xs : List X) (x : X) where
  -- the place that a look-up finds is the item's
  pub there : (r : Option ℕ) → r ≡ position (eq x) xs → IfSome r (λ n. At xs n x)
  there None is = tt
  there (Some n) is = let found = position-Some (eq x) xs n x (sym is) in (found.0, sym (exact x _ found.1))

  -- a new item goes last
  pub insert_new : (Contains xs x → ⊥) → insert_key eq xs x ≡ xs ++ x ∷ []
  insert_new fresh = by (list_any (eq x) xs) refl
    where
      by : (b : Bool) → list_any (eq x) xs ≡ b → insert_key eq xs x ≡ xs ++ x ∷ []
      by true found = absurd (fresh (Contains-list_any eq exact xs x found))
      by false none = ap (λ (b : Bool). if b then xs else xs ++ x ∷ []) none

  -- an item that an insert didn't add was there
  pub was_there : (added : Bool) → added ≡ not (list_any (eq x) xs) → added ≡ false → Contains xs x
  was_there added is none = by (list_any (eq x) xs) refl
    where
      by : (b : Bool) → list_any (eq x) xs ≡ b → Contains xs x
      by true found = Contains-list_any eq exact xs x found
      by false absent = absurd (true≢false (sym (ap not absent) ∙ sym is ∙ none))
