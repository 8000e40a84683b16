-- The chain of a class is the whole walk along its superclasses, so what is found on it is what a reference means.
use Rattle.std.proofs.Common.{◌≡◌, ◌↔◌, ◌≤◌, ◌+◌, ◌⊎◌, inl, inr, ℕ, zero, suc, Bool, true, false, cond, nat_eq, List, [], ◌∷◌, ◌++◌, length, flat_map, Some, None, refl, sym, ap, subst, ◌∙◌, arith, true≢false, if◌then◌else◌}
use Rattle.std.specs.Prelude.{All, Contains, Option}
use Rattle.std.specs.List.{find, AllByRecursion, IsDistinct as IsApart}
use Rattle.std.proofs.lemmas.Cmp.{nat_list_eq_equiv}
use Rattle.std.proofs.lemmas.List.{length-map}
use Rattle.std.proofs.lemmas.List.Elements.{All-contains}
use Rattle.std.proofs.lemmas.Map.Made.{length-le_from_is_member}
use lib.Pointwise.{pointwise, bytes_decides}
use Rattle.class_table.specs.Faults.{IsTable}
use Rattle.class_table.specs.Hierarchy.{given, heading, names_of, names_in, Extends}
use Rattle.class_table.specs.Resolving.{superclass}
use Rattle.class_table.proofs.Doubles.{own, name_of}
use Rattle.class_table.proofs.Linked.{map_has, superclass_within}
use Rattle.class_table.proofs.Named.{given_is}
use Rattle.class_table.proofs.Once.{any_has}
use Rattle.reach_rows.specs.Reaches.{Follows, here}
use Rattle.reach_rows.specs.Walks.{Walk, none, down}
use Rattle.reach_rows.proofs.Paths.{follows_more}
use Rattle.reach_rows.proofs.Walked.{Walk-once}
use Rattle.field_table.specs.Chains.{upwards, chain, declares, declarer, in_declarer, meaning, Means, first, nowhere}
use Rattle.field_table.specs.Fields.{declared_sigs, in_class, same_sig, Declares}
use Rattle.field_table.proofs.Keys.{has_any, sigs_decide}
use Rattle.jimple_tree.specs.WellFormed.{IsWellFormed}
use Rattle.jimple_tree.specs.declared.tree.Class.{Class}
use Rattle.jimple_tree.specs.declared.tree.FieldSig.{FieldSig}

-- a search for the first item that passes
module _ {X : Type 0} (test : X → Bool) where
  pub find_none : (xs : List X) → ((x : X) → Contains xs x → test x ≡ false) → find test xs ≡ None
  find_none [] fails = refl
  find_none (x ∷ xs) fails =
      ap (λ (b : Bool). cond b (Some x) (find test xs)) (fails x (0, (omega arith), refl))
      ∙ find_none xs (λ y has. fails y (suc has.0, (let below = has.1 in omega (arith, below)), has.2))

  pub find_first : (before behind : List X) (x : X) → ((y : X) → Contains before y → test y ≡ false) → test x ≡ true → find test (before ++ x ∷ behind) ≡ Some x
  find_first [] behind x fails passes = ap (λ (b : Bool). cond b (Some x) (find test behind)) passes
  find_first (z ∷ zs) behind x fails passes =
      ap (λ (b : Bool). cond b (Some z) (find test (zs ++ x ∷ behind))) (fails z (0, (omega arith), refl))
      ∙ find_first zs behind x (λ y has. fails y (suc has.0, (let below = has.1 in omega (arith, below)), has.2)) passes

  -- what it gives stands behind items that fail
  abbrev pub First : List X → Option X → Type 0
  First xs None = (x : X) → Contains xs x → test x ≡ false
  First xs (Some x) = (before : List X) × (behind : List X) × (xs ≡ before ++ x ∷ behind) × ((y : X) → Contains before y → test y ≡ false) × (test x ≡ true)

  none_of : (x : X) (xs : List X) → test x ≡ false → ((y : X) → Contains xs y → test y ≡ false) → (y : X) → Contains (x ∷ xs) y → test y ≡ false
  none_of x xs fails others y (zero, below, at) = subst (λ (z : X). test z ≡ false) at fails
  none_of x xs fails others y (suc k, below, at) = others y (k, (let less = below in omega (arith, less)), at)

  pub find_is : (xs : List X) → First xs (find test xs)
  find_is [] = λ x has. absurd (let below = has.1 in omega (arith, below))
  find_is (x ∷ xs) = by (test x) refl (find test xs) (find_is xs) where
    later : test x ≡ false → (o : Option X) → First xs o → First (x ∷ xs) o
    later fails None others = none_of x xs fails others
    later fails (Some y) (before, behind, parts, others, passes) = (x ∷ before, behind, ap (λ (l : List X). x ∷ l) parts, none_of x before fails others, passes)

    by : (b : Bool) → test x ≡ b → (o : Option X) → First xs o → First (x ∷ xs) (cond b (Some x) o)
    by true passes o is = ([], xs, refl, (λ y has. absurd (let below = has.1 in omega (arith, below))), passes)
    by false fails o is = later fails o is

module _ (cs : List Class) (table : IsTable cs) (formed : All IsWellFormed cs) where
  abbrev ups : List ℕ → List (List ℕ)
  ups class = names_in superclass cs class

  -- a class has one superclass at most, and is given where it has one
  abbrev HasAbove : List ℕ → List (List ℕ) → Type 0
  HasAbove class names = (names ≡ []) ⊎ ((up : List ℕ) × (names ≡ up ∷ []) × Contains (own cs) class × Extends cs class up)

  few_above : (c : Class) → IsWellFormed c → (superclass c ≡ []) ⊎ ((up : List ℕ) × (superclass c ≡ up ∷ []))
  few_above c is = by c.is_interface refl c.extends refl where
    by : (b : Bool) → c.is_interface ≡ b → (names : List (List ℕ)) → c.extends ≡ names → ((if b then [] else c.extends) ≡ []) ⊎ ((up : List ℕ) × ((if b then [] else c.extends) ≡ up ∷ []))
    by true is_so names these = inl refl
    by false not [] these = inl these
    by false not (up ∷ []) these = inr (up, these)
    by false not (up ∷ other ∷ rest) these = absurd (let few = is.superclass not in let long : length c.extends ≡ length (up ∷ other ∷ rest) = ap length these in omega (arith, few, long))

  above_of : (class : List ℕ) → HasAbove class (ups class)
  above_of class = by (given cs class) refl where
    by : (o : Option Class) → given cs class ≡ o → HasAbove class (names_of superclass o)
    by None is = inl refl
    by (Some c) is = elim (few_above c (All-contains IsWellFormed cs c formed found.0)) [
      | inl last ↦ inl last
      | inr (up, one) ↦ inr (up, one, subst (Contains (own cs)) found.1 (map_has name_of cs c found.0), subst (λ (ns : List (List ℕ)). Contains ns up) (sym (ap (names_of heading) is)) (superclass_within c up (subst (λ (ns : List (List ℕ)). Contains ns up) (sym one) (0, (omega arith), refl))))
    ] where
      found : Contains cs c × (c.name ≡ class)
      found = given_is cs class c is

  -- names that were passed on the way up: all are given, and the class stands above each
  abbrev Passed : List (List ℕ) → List ℕ → Type 0
  Passed passed class = AllByRecursion (λ (p : List ℕ). Contains (own cs) p × Follows (Extends cs) p class) passed

  lifted : (passed : List (List ℕ)) (class up : List ℕ) → Extends cs class up → Passed passed class → Passed passed up
  lifted [] class up step has = has
  lifted (p ∷ ps) class up step (one, others) = ((one.0, follows_more (Extends cs) p class up one.1 step), lifted ps class up step others)

  apart : (passed : List (List ℕ)) (class : List ℕ) → Passed passed class → AllByRecursion (λ (p : List ℕ). pointwise nat_eq class p ≡ false) passed
  apart [] class has = has
  apart (p ∷ ps) class (one, others) = (by (pointwise nat_eq class p) refl, apart ps class others) where
    by : (b : Bool) → pointwise nat_eq class p ≡ b → pointwise nat_eq class p ≡ false
    by true same = absurd (table.acyclic class (subst (λ (n : List ℕ). Follows (Extends cs) n class) (sym ((bytes_decides class p).0 same)) one.1))
    by false other = other

  owned : (passed : List (List ℕ)) (class q : List ℕ) → Passed passed class → Contains passed q → Contains (own cs) q
  owned [] class q has (k, below, at) = absurd (omega (arith, below))
  owned (p ∷ ps) class q has (zero, below, at) = subst (Contains (own cs)) at has.0.0
  owned (p ∷ ps) class q has (suc k, below, at) = owned ps class q has.1 (k, (let less = below in omega (arith, less)), at)

  -- they are no more than the classes
  few_passed : (passed : List (List ℕ)) (class : List ℕ) → Passed passed class → IsApart (pointwise nat_eq) passed → length passed ≤ length cs
  few_passed passed class has distinct =
      let long = length-map cs name_of in
      let few = length-le_from_is_member nat_list_eq_equiv passed (own cs) distinct
      (λ q is. has_any (pointwise nat_eq) bytes_decides (own cs) q (owned passed class q has (any_has (pointwise nat_eq) bytes_decides passed q is))) in
      omega (arith, few, long)

  walk_up : (n : ℕ) (passed : List (List ℕ)) (class : List ℕ) → Passed passed class → IsApart (pointwise nat_eq) passed → length cs + 1 ≤ n + length passed → Walk ups (class ∷ []) (upwards cs n class)
  unfolding upwards IsApart
  walk_up zero passed class has distinct room = absurd (let few = few_passed passed class has distinct in omega (arith, few, room))
  walk_up (suc n) passed class has distinct room = by (ups class) refl (above_of class) (λ up more. walk_up n (class ∷ passed) up more (apart passed class has, distinct) (let long : length (class ∷ passed) ≡ suc (length passed) = refl in omega (arith, room, long))) where
    by : (names : List (List ℕ)) → ups class ≡ names → HasAbove class names → ((up : List ℕ) → Passed (class ∷ passed) up → Walk ups (up ∷ []) (upwards cs n up)) → Walk ups (class ∷ []) (class ∷ flat_map (upwards cs n) (ups class))
    by names is (inl last) rest =
        subst (λ (ns : List (List ℕ)). Walk ups (class ∷ []) (class ∷ flat_map (upwards cs n) ns)) (sym (is ∙ last)) (down (subst (λ (ns : List (List ℕ)). Walk ups ns []) (sym (is ∙ last)) none) none)
    by names is (inr (up, one, known, step)) rest =
        let further = rest up ((known, record { by = up; step = step; rest = here }), lifted passed class up step has) in
        subst (λ (ns : List (List ℕ)). Walk ups (class ∷ []) (class ∷ flat_map (upwards cs n) ns)) (sym (is ∙ one)) (down (subst (λ (ns : List (List ℕ)). Walk ups ns (upwards cs n up)) (sym (is ∙ one)) further) none)

  pub chain_walk : (class : List ℕ) → Walk ups (class ∷ []) (chain cs class)
  unfolding chain IsApart
  chain_walk class = walk_up (length cs + 1) [] class tt tt (omega arith)

  module _ (sig : FieldSig) where
    test_holds : (class : List ℕ) → declares cs sig class ≡ true → Declares cs class sig
    test_holds class passes = any_has same_sig sigs_decide (declared_sigs cs) (in_class sig class) passes

    test_fails : (class : List ℕ) → (Declares cs class sig → ⊥) → declares cs sig class ≡ false
    test_fails class lacks = by (declares cs sig class) refl where
      by : (b : Bool) → declares cs sig class ≡ b → declares cs sig class ≡ false
      by true passes = absurd (lacks (test_holds class passes))
      by false fails = fails

    lacks_where : (class : List ℕ) → declares cs sig class ≡ false → Declares cs class sig → ⊥
    lacks_where class fails has = true≢false (sym (has_any same_sig sigs_decide (declared_sigs cs) (in_class sig class) has) ∙ fails)

    -- what is found is what the reference means, and it means nothing else
    pub means_meaning : Means cs sig (meaning cs sig)
    means_meaning = by (declarer cs sig) (find_is (declares cs sig) (chain cs sig.class)) where
      by : (o : Option (List ℕ)) → First (declares cs sig) (chain cs sig.class) o → Means cs sig (in_declarer sig o)
      by None fails = nowhere (chain cs sig.class) (chain_walk sig.class) (λ other has. lacks_where other (fails other has))
      by (Some class) (before, behind, parts, fails, passes) =
          first before behind class (subst (Walk ups (sig.class ∷ [])) parts (chain_walk sig.class)) (λ other has. lacks_where other (fails other has)) (test_holds class passes)

    pub only_meaning : (means : FieldSig) → Means cs sig means → means ≡ meaning cs sig
    only_meaning means (first before behind class walk fails passes) =
        let same : before ++ class ∷ behind ≡ chain cs sig.class = Walk-once ups walk (chain_walk sig.class) in
        let found : find (declares cs sig) (before ++ class ∷ behind) ≡ Some class = find_first (declares cs sig) before behind class (λ y has. test_fails y (fails y has)) (has_any same_sig sigs_decide (declared_sigs cs) (in_class sig class) passes) in
        ap (in_declarer sig) (sym found ∙ ap (find (declares cs sig)) same)
    only_meaning means (nowhere all walk fails) =
        let same : all ≡ chain cs sig.class = Walk-once ups walk (chain_walk sig.class) in
        ap (in_declarer sig) (sym (find_none (declares cs sig) all (λ y has. test_fails y (fails y has))) ∙ ap (find (declares cs sig)) same)

    pub means_exact : (means : FieldSig) → Means cs sig means ↔ (means ≡ meaning cs sig)
    means_exact means = (only_meaning means, λ is. subst (Means cs sig) (sym is) means_meaning)
