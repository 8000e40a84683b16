-- What the members of a set make, one after another.
use Rattle.std.proofs.Common.{◌≡◌, ◌⊎◌, ◌↔◌, ◌≤◌, ◌<◌, ◌+◌, ℕ, List, [], ◌∷◌, ◌++◌, length, get_or, take, Contains, sym, subst, Result, Ok, Err, OnOk}
use Rattle.std.proofs.lemmas.List.{take_all}
use Rattle.clean_base.specs.Lists.{AppendsSet}
use Rattle.flow_rules.specs.Only.{OfEach}
use Rattle.clean_base.proofs.Appended.{appends_both, appends_both_if, appends_one, appends_same}
use Rattle.flow_rules.proofs.Each.{each_more}
use Rattle.taint_problem.specs.Moves.{Each}

-- a list that begins with nothing has the members of what was added
pub filled : {X : Type 0} (set : X → Type 0) (items : List X) → AppendsSet set [] items → (x : X) → Contains items x ↔ set x
filled {X} set items adds x = subst (λ (xs : List X). Contains xs x ↔ set x) (sym adds.1) (adds.2 x)

module _ {X M : Type 0} where
  -- the same set in other words
  pub each_same : (s t : X → Type 0) (makes : X → M → Type 0) → ((x : X) → s x ↔ t x) → (m : M) → Each s makes m ↔ Each t makes m
  each_same s t makes same m = (
    (λ is. (is.0, (same is.0).0 is.1, is.2)),
    (λ is. (is.0, (same is.0).1 is.1, is.2)),
  )

  pub each_filled : (s u : X → Type 0) (makes : X → M → Type 0) (items : List X) → AppendsSet s [] items → ((x : X) → u x ↔ s x) → (m : M) → Each u makes m ↔ OfEach items makes m
  each_filled s u makes items adds same m = (
    (λ is. (is.0, (filled s items adds is.0).1 ((same is.0).0 is.1), is.2)),
    (λ is. (is.0, (same is.0).1 ((filled s items adds is.0).0 is.1), is.2)),
  )

  -- a list that held nothing, and to which a set was added: what its items make is what the set's members make
  pub of_filled : (s u : X → Type 0) (makes : X → M → Type 0) (start items slice : List X) (old new : List M) → start ≡ [] → AppendsSet s start items → slice ≡ items → ((x : X) → u x ↔ s x)
      → AppendsSet (OfEach slice makes) old new → AppendsSet (Each u makes) old new
  of_filled s u makes start items slice old new empty adds is same did =
      appends_same (OfEach slice makes) (Each u makes) old new
      (each_filled s u makes slice (subst (λ (xs : List X). AppendsSet s [] xs) (sym is) (subst (λ (xs : List X). AppendsSet s xs items) empty adds)) same) did

  pub of_filled_if : {E : Type 0} (r : Result (Unit {0}) E) (s u : X → Type 0) (makes : X → M → Type 0) (start items slice : List X) (old new : List M)
      → start ≡ [] → AppendsSet s start items → slice ≡ items → ((x : X) → u x ↔ s x)
      → OnOk r (AppendsSet (OfEach slice makes) old new) → OnOk r (AppendsSet (Each u makes) old new)
  of_filled_if (Ok done) s u makes start items slice old new empty adds is same did = of_filled s u makes start items slice old new empty adds is same did
  of_filled_if (Err e) s u makes start items slice old new empty adds is same did = tt

  -- one item of the list more
  pub one_more : (xs : List X) (i : ℕ) (d : X) (makes : X → M → Type 0) (old mid new : List M) → i < length xs
      → AppendsSet (OfEach (take i xs) makes) old mid → AppendsSet (makes (get_or xs i d)) mid new → AppendsSet (OfEach (take (i + 1) xs) makes) old new
  one_more xs i d makes old mid new below before now = appends_both (OfEach (take i xs) makes) (makes (get_or xs i d)) (OfEach (take (i + 1) xs) makes) old mid new (each_more xs i d makes below) before now

  -- the same where the item is known by a name of its own
  pub one_more_is : (xs : List X) (i : ℕ) (y : X) (makes : X → M → Type 0) (old mid new : List M) → i < length xs → get_or xs i y ≡ y
      → AppendsSet (OfEach (take i xs) makes) old mid → AppendsSet (makes y) mid new → AppendsSet (OfEach (take (i + 1) xs) makes) old new
  one_more_is xs i y makes old mid new below is before now = one_more xs i y makes old mid new below before (subst (λ (x : X). AppendsSet (makes x) mid new) (sym is) now)

  -- the whole list
  pub all_done : (xs : List X) (i : ℕ) (makes : X → M → Type 0) (old new : List M) → length xs ≤ i → AppendsSet (OfEach (take i xs) makes) old new → AppendsSet (OfEach xs makes) old new
  all_done xs i makes old new past before = subst (λ (done : List X). AppendsSet (OfEach done makes) old new) (take_all i xs past) before

-- two sets, one after the other
pub both : {M E : Type 0} (r : Result (Unit {0}) E) (s t : M → Type 0) (old mid new : List M) → AppendsSet s old mid → OnOk r (AppendsSet t mid new) → OnOk r (AppendsSet (λ (m : M). s m ⊎ t m) old new)
both r s t old mid new first second = appends_both_if r s t (λ m. s m ⊎ t m) old mid new (λ m. ((λ e. e), (λ e. e))) first second

pub both_three : {M E : Type 0} (r : Result (Unit {0}) E) (s t u : M → Type 0) (old one two new : List M) → AppendsSet s old one → AppendsSet t one two → OnOk r (AppendsSet u two new)
    → OnOk r (AppendsSet (λ (m : M). s m ⊎ (t m ⊎ u m)) old new)
both_three r s t u old one two new first second third = both r s (λ m. t m ⊎ u m) old one new first (both r t u one two new second third)

-- one item that was put at the end
pub pushed : {M : Type 0} (y : M) (old new : List M) → new ≡ old ++ y ∷ [] → AppendsSet (λ (m : M). m ≡ y) old new
pushed y old new is = appends_one (λ m. m ≡ y) old new y (λ m. ((λ e. e), (λ e. e))) is
