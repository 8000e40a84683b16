-- What a look-up along the superclasses of a class finds.
use Rattle.std.proofs.Common.{◌≡◌, ◌<◌, ◌+◌, ◌⊎◌, inl, inr, ℕ, zero, suc, Bool, true, false, cond, List, [], ◌∷◌, length, flat_map, Some, None, refl, sym, ap, subst, ◌∙◌, arith}
use Rattle.std.specs.Prelude.{All, Contains, Option, IsSome}
use Rattle.std.specs.List.{find}
use Rattle.std.proofs.lemmas.List.{append-nil}
use Rattle.std.proofs.lemmas.List.Elements.{All-contains, Contains-push_cases}
use Rattle.clean_base.specs.Lists.{At}
use Rattle.class_table.specs.Hierarchy.{given, names_in}
use Rattle.class_table.specs.Resolving.{superclass}
use Rattle.class_table.proofs.Named.{given_is}
use Rattle.class_table.proofs.Once.{lacks_any, insert_cases}
use Rattle.indexmap.specs.IndexSet.{insert_key, insert_all}
use Rattle.field_table.specs.Chains.{upwards, chain, declares, declarer, in_declarer, meaning}
use Rattle.field_table.specs.Fields.{declared_sigs, in_class, same_sig}
use Rattle.field_table.proofs.Keys.{has_any, sigs_decide}
use Rattle.jimple_tree.specs.WellFormed.{IsWellFormed}
use Rattle.jimple_tree.specs.declared.tree.Class.{Class}
use Rattle.jimple_tree.specs.declared.tree.FieldSig.{FieldSig}

pub place_formed : (cs : List Class) → All IsWellFormed cs → (p : ℕ) (c : Class) → At cs p c → IsWellFormed c
place_formed cs formed p c at = subst IsWellFormed at.1 (formed p c at.0)

pub given_formed : (cs : List Class) → All IsWellFormed cs → (name : List ℕ) (c : Class) → given cs name ≡ Some c → IsWellFormed c
given_formed cs formed name c is = All-contains IsWellFormed cs c formed (given_is cs name c is).0

-- what stands among items that are taken once is one of them
pub once_from : {X : Type 0} (eq : X → X → Bool) (tells : (x y : X) → (eq x y ≡ true → x ≡ y) × (x ≡ y → eq x y ≡ true)) (ks xs : List X) (x : X) → Contains (insert_all eq ks xs) x → Contains ks x ⊎ Contains xs x
once_from eq tells ks [] x has = inl has
once_from {X} eq tells ks (y ∷ ys) x has = elim (once_from eq tells (insert_key eq ks y) ys x has) [
  | inl early ↦ insert_cases eq tells (λ (l : List X). Contains l x → Contains ks x ⊎ Contains (y ∷ ys) x) ks y (λ _ old. inl old) (λ _ pushed. elim (Contains-push_cases ks y x pushed) [
    | inl old ↦ inl old
    | inr same ↦ inr (0, (omega arith), same)
  ]) early
  | inr later ↦ inr (suc later.0, (let below = later.1 in omega (arith, below)), later.2)
]

module _ (cs : List Class) (sig : FieldSig) where
  -- whether a class declares the field
  pub declares_yes : (class : List ℕ) → Contains (declared_sigs cs) (in_class sig class) → declares cs sig class ≡ true
  declares_yes class has = has_any same_sig sigs_decide (declared_sigs cs) (in_class sig class) has

  pub declares_no : (class : List ℕ) → (Contains (declared_sigs cs) (in_class sig class) → ⊥) → declares cs sig class ≡ false
  declares_no class lacks = lacks_any same_sig sigs_decide (declared_sigs cs) (in_class sig class) lacks

  -- the look-up begins with the class itself
  pub started : (n : ℕ) → n ≡ length cs + 1 → declarer cs sig ≡ find (declares cs sig) (upwards cs n sig.class)
  unfolding chain
  started n is = ap (λ (k : ℕ). find (declares cs sig) (upwards cs k sig.class)) (sym is)

  next : (n : ℕ) (class : List ℕ) → find (declares cs sig) (upwards cs (suc n) class) ≡ cond (declares cs sig class) (Some class) (find (declares cs sig) (flat_map (upwards cs n) (names_in superclass cs class)))
  unfolding upwards
  next n class = refl

  pub at_end : (class : List ℕ) → find (declares cs sig) (upwards cs 0 class) ≡ None
  unfolding upwards
  at_end class = refl

  -- and ends with one that declares the field
  pub found_here : (n : ℕ) (class : List ℕ) → 0 < n → declares cs sig class ≡ true → find (declares cs sig) (upwards cs n class) ≡ Some class
  found_here zero class some told = absurd (omega (arith, some))
  found_here (suc n) class some told = next n class ∙ ap (λ (b : Bool). cond b (Some class) (find (declares cs sig) (flat_map (upwards cs n) (names_in superclass cs class)))) told

  -- or goes on with the superclass
  pub goes_up : (n m : ℕ) (class up : List ℕ) → n ≡ m + 1 → declares cs sig class ≡ false → names_in superclass cs class ≡ up ∷ [] → find (declares cs sig) (upwards cs n class) ≡ find (declares cs sig) (upwards cs m up)
  goes_up zero m class up is fails above = absurd (omega (arith, is))
  goes_up (suc n) m class up is fails above =
      next n class
      ∙ ap (λ (b : Bool). cond b (Some class) (find (declares cs sig) (flat_map (upwards cs n) (names_in superclass cs class)))) fails
      ∙ ap (λ (ns : List (List ℕ)). find (declares cs sig) (flat_map (upwards cs n) ns)) above
      ∙ ap (find (declares cs sig)) (append-nil (upwards cs n up))
      ∙ ap (λ (k : ℕ). find (declares cs sig) (upwards cs k up)) (let same : n ≡ m = omega (arith, is) in same)

  -- until there is none
  pub ends : (n : ℕ) (class : List ℕ) → declares cs sig class ≡ false → names_in superclass cs class ≡ [] → find (declares cs sig) (upwards cs n class) ≡ None
  ends zero class fails above = at_end class
  ends (suc n) class fails above =
      next n class
      ∙ ap (λ (b : Bool). cond b (Some class) (find (declares cs sig) (flat_map (upwards cs n) (names_in superclass cs class)))) fails
      ∙ ap (λ (ns : List (List ℕ)). find (declares cs sig) (flat_map (upwards cs n) ns)) above

  -- the place of the field in the class that declares it
  pub means_here : (n : ℕ) (class : List ℕ) (sigs : List FieldSig) (place : ℕ) → sigs ≡ declared_sigs cs → 0 < n → declarer cs sig ≡ find (declares cs sig) (upwards cs n class) → At sigs place (in_class sig class)
      → IsSome (declarer cs sig) × At sigs place (meaning cs sig)
  means_here n class sigs place all some look at =
      let has : Contains (declared_sigs cs) (in_class sig class) = let there : At (declared_sigs cs) place (in_class sig class) = subst (λ (l : List FieldSig). At l place (in_class sig class)) all at in (place, there.0, there.1) in
      let is : declarer cs sig ≡ Some class = look ∙ found_here n class some (declares_yes class has) in
      (subst IsSome (sym is) refl, subst (λ (o : Option (List ℕ)). At sigs place (in_declarer sig o)) (sym is) at)
