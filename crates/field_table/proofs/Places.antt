-- Where the fields of a program stand.
use Rattle.std.proofs.Common.{◌≡◌, ◌↔◌, ◌<◌, ◌≤◌, ◌+◌, ◌-◌, ◌⊎◌, inl, inr, ℕ, Bool, true, false, is_none, List, [], ◌++◌, length, Some, None, refl, sym, ap, subst, ◌∙◌, arith}
use Rattle.std.specs.Prelude.{Contains, Option}
use Rattle.std.proofs.lemmas.List.{length-append, get_or_append_left, get_or-append_right, get_or-append-add}
use Rattle.std.proofs.lemmas.Option.{same_Some}
use Rattle.clean_base.specs.Lists.{At, IsDistinct}
use Rattle.clean_base.specs.declared.fault.InputFault.{InputFault}
use Rattle.clean_base.specs.declared.ids.FieldId.{FieldId}
use Rattle.class_table.proofs.Once.{all_distinct, all_new, any_lacks, one_place}
use Rattle.class_table.proofs.Picked.{filter_at, filter_from}
use Rattle.field_table.specs.Chains.{declares, declarer, in_declarer, meaning, Means}
use Rattle.field_table.specs.Fields.{declared_sigs, references, same_sig}
use Rattle.field_table.specs.Numbers.{Fields, AreFields, undeclared, named_sigs, field_sigs, own_fields, HasFewFields, IsFieldNumber, IsFieldFault, fields, HaveOneNumber}
use Rattle.field_table.proofs.Keys.{at_longer, sigs_decide}
use Rattle.field_table.proofs.Upwards.{once_from, started, found_here}
use Rattle.jimple_tree.specs.declared.tree.Class.{Class}
use Rattle.jimple_tree.specs.declared.tree.FieldSig.{FieldSig}

less_or_more : (a b : ℕ) → (a < b) ⊎ (b ≤ a)
less_or_more a b = grind arith

-- items of two lists, one behind the other
module _ {X : Type 0} (xs ys : List X) where
  pub at_behind : (i : ℕ) (x : X) → At ys i x → At (xs ++ ys) (length xs + i) x
  at_behind i x (below, is) = ((let long = length-append xs ys in omega (arith, long, below)), get_or-append-add xs ys i x ∙ is)

  pub at_one_of : (i : ℕ) (x : X) → At (xs ++ ys) i x → At xs i x ⊎ ((length xs ≤ i) × At ys (i - length xs) x)
  at_one_of i x (below, is) = elim (less_or_more i (length xs)) [
    | inl less ↦ inl (less, sym (get_or_append_left xs ys x i less) ∙ is)
    | inr more ↦ inr (more, ((let long = length-append xs ys in omega (arith, long, below, more)), sym (get_or-append_right xs ys (length xs) i x refl more) ∙ is))
  ]

none_in : {X : Type 0} → IsDistinct {X = X} []
none_in i j d less below = absurd (omega (arith, below))

none_is : (o : Option (List ℕ)) → is_none o ≡ true → o ≡ None
none_is None is = refl
none_is (Some x) is = absurd (cc)

module _ (cs : List Class) where
  named_once : IsDistinct (named_sigs cs)
  named_once = all_distinct same_sig sigs_decide [] (undeclared cs (references cs)) none_in

  -- where no class upwards declares a field, its own does not
  pub lacks_own : (sig : FieldSig) → declarer cs sig ≡ None → Contains (declared_sigs cs) sig → ⊥
  lacks_own sig is has = any_lacks same_sig sigs_decide (declared_sigs cs) sig (fails (declares cs sig sig.class) refl) has where
    fails : (b : Bool) → declares cs sig sig.class ≡ b → declares cs sig sig.class ≡ false
    fails false is = is
    fails true passes = absurd (let some : declarer cs sig ≡ Some sig.class = started cs sig (length cs + 1) refl ∙ found_here cs sig (length cs + 1) sig.class (omega arith) passes in let clash : None ≡ Some sig.class = sym is ∙ some in cc)

  -- a field that references alone name is declared by none
  named_lacks : (sig : FieldSig) → Contains (named_sigs cs) sig → declarer cs sig ≡ None
  named_lacks sig has = elim (once_from same_sig sigs_decide [] (undeclared cs (references cs)) sig has) [
    | inl nowhere ↦ absurd (let below = nowhere.1 in omega (arith, below))
    | inr own ↦ none_is (declarer cs sig) (filter_from (λ (s : FieldSig). is_none (declarer cs s)) (references cs) own.0 sig (own.1, own.2)).2
  ]

  -- no field has two places
  pub field_place : IsDistinct (declared_sigs cs) → (i j : ℕ) (sig : FieldSig) → At (field_sigs cs) i sig → At (field_sigs cs) j sig → i ≡ j
  field_place declared_once i j sig at other = by (at_one_of (declared_sigs cs) (named_sigs cs) i sig at) (at_one_of (declared_sigs cs) (named_sigs cs) j sig other) where
    Stands : ℕ → Type 0
    Stands k = At (declared_sigs cs) k sig ⊎ ((length (declared_sigs cs) ≤ k) × At (named_sigs cs) (k - length (declared_sigs cs)) sig)

    both : (k l : ℕ) → At (declared_sigs cs) k sig → At (named_sigs cs) l sig → ⊥
    both k l one two = lacks_own sig (named_lacks sig (l, two.0, two.1)) (k, one.0, one.1)

    by : At (declared_sigs cs) i sig ⊎ ((length (declared_sigs cs) ≤ i) × At (named_sigs cs) (i - length (declared_sigs cs)) sig)
        → At (declared_sigs cs) j sig ⊎ ((length (declared_sigs cs) ≤ j) × At (named_sigs cs) (j - length (declared_sigs cs)) sig) → i ≡ j
    by (inl one) (inl two) = one_place (declared_sigs cs) declared_once i j sig one two
    by (inl one) (inr two) = absurd (both i (j - length (declared_sigs cs)) one two.1)
    by (inr one) (inl two) = absurd (both j (i - length (declared_sigs cs)) two one.1)
    by (inr one) (inr two) =
        let same = one_place (named_sigs cs) named_once (i - length (declared_sigs cs)) (j - length (declared_sigs cs)) sig one.1 two.1 in
        let low = one.0 in
        let high = two.0 in
        omega (arith, same, low, high)

  pub one_number : IsDistinct (declared_sigs cs) → ((sig own : FieldSig) → Means cs sig own ↔ (own ≡ meaning cs sig)) → HaveOneNumber cs
  one_number declared_once exact sig f g (own, means, (past, at)) (other, so, (beyond, there)) =
      let same : own ≡ other = (exact sig own).0 means ∙ sym ((exact sig other).0 so) in
      let place = field_place declared_once (f.0 - own_fields) (g.0 - own_fields) other (subst (At (field_sigs cs) (f.0 - own_fields)) same at) there in
      let number : f.0 ≡ g.0 = omega (arith, past, beyond, place) in
      ap (λ (n : ℕ). let r : FieldId = record { 0 = n } in r) number

  -- the number of a place is the one of what stands there
  module _ (distinct : IsDistinct (declared_sigs cs)) (sig : FieldSig) (exact : (own : FieldSig) → Means cs sig own ↔ (own ≡ meaning cs sig)) where
    pub numbered : (p : ℕ) → At (field_sigs cs) p (meaning cs sig) → (id : FieldId) → id.0 ≡ own_fields + p → (f : FieldId) → (Some id ≡ Some f) ↔ IsFieldNumber cs sig f
    numbered p at id is f = (to, from) where
      here : IsFieldNumber cs sig id
      here = (meaning cs sig, (exact (meaning cs sig)).1 refl, (omega (arith, is), subst (λ (k : ℕ). At (field_sigs cs) k (meaning cs sig)) (let e : p ≡ id.0 - own_fields = omega (arith, is) in e) at))

      to : Some id ≡ Some f → IsFieldNumber cs sig f
      to same = subst (IsFieldNumber cs sig) (same_Some id f same) here

      from : IsFieldNumber cs sig f → Some id ≡ Some f
      from (own, means, (past, there)) =
          let same : own ≡ meaning cs sig = (exact own).0 means in
          let place : p ≡ f.0 - own_fields = field_place distinct p (f.0 - own_fields) (meaning cs sig) at (subst (At (field_sigs cs) (f.0 - own_fields)) same there) in
          let number : id.0 ≡ f.0 = omega (arith, is, place, past) in
          ap (λ (n : ℕ). let r : FieldId = record { 0 = n } in Some r) number

    -- what stands nowhere has none
    pub unnumbered : (Contains (field_sigs cs) (meaning cs sig) → ⊥) → (f : FieldId) → (None ≡ Some f) ↔ IsFieldNumber cs sig f
    unnumbered lacks f = (λ e. absurd (cc), from) where
      from : IsFieldNumber cs sig f → None ≡ Some f
      from (own, means, (past, there)) =
          let at = subst (At (field_sigs cs) (f.0 - own_fields)) ((exact own).0 means) there in
          absurd (lacks (f.0 - own_fields, at.0, at.1))

  module _ (all : Fields) (are : AreFields cs all) (once : IsDistinct all.declared) (sig : FieldSig) (exact : (own : FieldSig) → Means cs sig own ↔ (own ≡ meaning cs sig)) where
    distinct : IsDistinct (declared_sigs cs)
    distinct = subst (λ (l : List FieldSig). IsDistinct l) are.all_declared once

    pub number_declared : (p : ℕ) → At all.declared p (meaning cs sig) → (id : FieldId) → id.0 ≡ own_fields + p → (f : FieldId) → (Some id ≡ Some f) ↔ IsFieldNumber cs sig f
    number_declared p at = numbered distinct sig exact p (at_longer (declared_sigs cs) (named_sigs cs) p (meaning cs sig) (subst (λ (l : List FieldSig). At l p (meaning cs sig)) are.all_declared at))

    itself : declarer cs sig ≡ None → meaning cs sig ≡ sig
    itself is = ap (in_declarer sig) is

    pub number_named : declarer cs sig ≡ None → (p : ℕ) → At all.named p sig → (id : FieldId) → id.0 ≡ own_fields + (length all.declared + p) → (f : FieldId) → (Some id ≡ Some f) ↔ IsFieldNumber cs sig f
    number_named is p at id number =
        let there : At (named_sigs cs) p (meaning cs sig) = subst (At (named_sigs cs) p) (sym (itself is)) (subst (λ (l : List FieldSig). At l p sig) are.all_named at) in
        let long : length all.declared ≡ length (declared_sigs cs) = ap length are.all_declared in
        numbered distinct sig exact (length (declared_sigs cs) + p) (at_behind (declared_sigs cs) (named_sigs cs) p (meaning cs sig) there) id (omega (arith, number, long))

    pub number_none : declarer cs sig ≡ None → (Contains all.named sig → ⊥) → (f : FieldId) → (None ≡ Some f) ↔ IsFieldNumber cs sig f
    number_none is lacks = unnumbered distinct sig exact (λ has. by has.0 (subst (At (field_sigs cs) has.0) (itself is) (has.1, has.2))) where
      by : (i : ℕ) → At (field_sigs cs) i sig → ⊥
      by i at = elim (at_one_of (declared_sigs cs) (named_sigs cs) i sig at) [
        | inl one ↦ lacks_own sig is (i, one.0, one.1)
        | inr two ↦ lacks (subst (λ (l : List FieldSig). Contains l sig) (sym are.all_named) (i - length (declared_sigs cs), two.1.0, two.1.1))
      ]

    -- a reference that no class declares is among those that are named
    pub reference_named : declarer cs sig ≡ None → Contains (references cs) sig → Contains all.named sig
    reference_named is (k, below, at) =
        let left = filter_at (λ (s : FieldSig). is_none (declarer cs s)) (references cs) k sig (below, at) (ap is_none is) in
        subst (λ (l : List FieldSig). Contains l sig) (sym are.all_named) (all_new same_sig sigs_decide [] (undeclared cs (references cs)) sig (_, left.0, left.1))

  -- few fields are no fault
  pub no_fault : HasFewFields cs → (f : InputFault) → IsFieldFault cs f → ⊥
  no_fault few f (fields more) = absurd (omega (arith, few, more))
