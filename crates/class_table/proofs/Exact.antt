-- A method has one number, and a signature names one method.
use Rattle.std.proofs.Common.{◌≡◌, ◌↔◌, ◌<◌, ◌≤◌, ℕ, true, true≢false, is_some, List, length, All, Contains, Option, Some, None, refl, sym, ap, subst, ◌∙◌, arith}
use Rattle.std.proofs.lemmas.Option.{same_Some}
use Rattle.clean_base.specs.Lists.{At}
use Rattle.clean_base.specs.declared.ids.MethodId.{MethodId}
use Rattle.jimple_tree.specs.WellFormed.{IsWellFormed, method_key}
use Rattle.jimple_tree.specs.declared.tree.Class.{Class}
use Rattle.jimple_tree.specs.declared.tree.Method.{Method}
use Rattle.jimple_tree.specs.declared.tree.Sig.{Sig}
use Rattle.class_table.specs.Faults.{HaveNames}
use Rattle.class_table.specs.Hierarchy.{class_names}
use Rattle.jimple_tree.specs.Signatures.{HasSignature}
use Rattle.class_table.specs.Index.{IsMethodAt}
use Rattle.class_table.specs.Members.{AreMembers, ArePlaces, IsNumbered, StandsAt, method_id}
use Rattle.class_table.specs.Methods.{all_methods, IsDeclared, IsNumber}
use Rattle.class_table.specs.declared.members.ClassMembers.{ClassMembers}
use Rattle.class_table.specs.declared.members.Members.{Members}
use Rattle.class_table.specs.declared.members.Place.{Place}
use Rattle.class_table.proofs.Doubles.{name_of, names_distinct, own_number}
use Rattle.class_table.proofs.Numbers.{before, number_from}
use Rattle.class_table.proofs.Once.{one_place}
use Rattle.class_table.proofs.Signed.{none_some, one_key, one_item}

module _ (cs : List Class) (formed : All IsWellFormed cs) (names : HaveNames cs) where
  -- the name of the class at a place has that number
  pub own_name : (p : ℕ) (c : Class) → At cs p c → At (class_names cs) p c.name
  own_name p c at = own_number cs names p c at.0 (sym at.1)

  pub well_formed : (p : ℕ) (c : Class) → At cs p c → IsWellFormed c
  well_formed p c at = subst IsWellFormed at.1 (formed p c at.0)

  -- a class whose name has this number stands at it
  pub class_there : (p q : ℕ) (c : Class) (name : List ℕ) → At cs p c → At (class_names cs) q name → c.name ≡ name → p ≡ q
  class_there p q c name at there same = one_place (class_names cs) (names_distinct cs) p q name (subst (At (class_names cs) p) same (own_name p c at)) there

  same_class : (p q : ℕ) (c : Class) → At cs p c → At cs q c → p ≡ q
  same_class p q c at there = one_key name_of cs names p q c c at there refl

  pub one_number : (n m : ℕ) (c : Class) (k : Method) → At (all_methods cs) n (c, k) → At (all_methods cs) m (c, k) → n ≡ m
  one_number n m c k at there = by (number_from cs n c k at) (number_from cs m c k there) where
    Comes : ℕ → Type 0
    Comes n = (p : ℕ) × (i : ℕ) × At cs p c × At c.methods i k × (is_some k.body ≡ true) × (n ≡ before cs p c i)

    by : Comes n → Comes m → n ≡ m
    by (p, i, here, own, body, is) (q, j, other, its, some, was) =
        let classes : p ≡ q = same_class p q c here other in
        let places : i ≡ j = one_key method_key c.methods (well_formed p c here).methods i j k k own its refl in
        is ∙ ap (λ (r : ℕ). before cs r c i) classes ∙ ap (λ (r : ℕ). before cs q c r) places ∙ sym was

  -- a method's number is that of no other method
  pub number_exact : (c : Class) (k : Method) (o : Option MethodId) → IsNumbered cs c k o → (n : MethodId) → (o ≡ Some n) ↔ IsNumber cs n c k
  number_exact c k None none n = (
    λ e. absurd (none_some n e),
    λ at. absurd (true≢false (sym (number_from cs n.0 c k at).4 ∙ none)),
  )
  number_exact c k (Some m) is n = (
    λ e. subst (λ (i : MethodId). IsNumber cs i c k) (same_Some m n e) is,
    λ at. ap (λ (i : ℕ). Some (method_id i)) (one_number m.0 n.0 c k is at),
  )

  -- a method under the signature stands in the class of its name, where the signature's name, parameters and result say
  pub declared_there : (p : ℕ) (c : Class) (sig : Sig) (n : MethodId) → At cs p c → At (class_names cs) p sig.class → IsDeclared cs sig n
      → (place : ℕ) × (m : Method) × IsMethodAt c sig place m × IsNumber cs n c m
  declared_there p c sig n at named (d, m, number, same) = by (number_from cs n.0 d m number) where
    by : ((q : ℕ) × (i : ℕ) × At cs q d × At d.methods i m × (is_some m.body ≡ true) × (n.0 ≡ before cs q d i)) → (place : ℕ) × (m : Method) × IsMethodAt c sig place m × IsNumber cs n c m
    by (q, i, here, own, body, is) =
        let places : q ≡ p = class_there q p d sig.class here named (ap (λ (s : Sig). s.class) (sym same)) in
        let one : d ≡ c = one_item cs q p d c here at places in
        let signed : HasSignature sig m = subst (λ (s : Sig). HasSignature s m) (sym same) refl in
        (i, m, (subst (λ (e : Class). At e.methods i m) one own, signed), subst (λ (e : Class). IsNumber cs n e m) one number)

  -- a method of that signature in that class is declared under it
  pub there_declared : (p : ℕ) (c : Class) (sig : Sig) (n : MethodId) (place : ℕ) (m : Method) → At cs p c → At (class_names cs) p sig.class → IsMethodAt c sig place m → IsNumber cs n c m → IsDeclared cs sig n
  there_declared p c sig n place m at named is number =
      let own = own_name p c at in
      let name : sig.class ≡ c.name = one_item (class_names cs) p p sig.class c.name named own refl in
      (c, m, number, is.1 ∙ ap (λ (w : List ℕ). let s : Sig = record { class = w; result = m.result; name = m.name; params = m.params } in s) name)

  -- the number that was found for a signature is exactly that of its method
  pub found_declared : (p : ℕ) (c : Class) (sig : Sig) (place : ℕ) (o : Option MethodId) → At cs p c → At (class_names cs) p sig.class
      → ((other : ℕ) → (Some place ≡ Some other) ↔ ((m : Method) × IsMethodAt c sig other m)) → ((m : Method) → At c.methods place m → IsNumbered cs c m o)
      → (n : MethodId) → (o ≡ Some n) ↔ IsDeclared cs sig n
  found_declared p c sig place o at named found is n = by ((found place).0 refl) where
    by : ((m : Method) × IsMethodAt c sig place m) → (o ≡ Some n) ↔ IsDeclared cs sig n
    by (m, here) = (
      λ e. there_declared p c sig n place m at named here ((number_exact c m o (is m here.0) n).0 e),
      λ d. back (declared_there p c sig n at named d),
    ) where
      back : ((other : ℕ) × (k : Method) × IsMethodAt c sig other k × IsNumber cs n c k) → o ≡ Some n
      back (other, k, there, number) =
          let same : place ≡ other = same_Some place other ((found other).1 (k, there)) in
          let one : k ≡ m = sym (one_item c.methods place other m k here.0 there.0 same) in
          (number_exact c m o (is m here.0) n).1 (subst (λ (x : Method). IsNumber cs n c x) one number)

  -- where the class has no method of the signature, none is declared under it
  pub none_declared : (p : ℕ) (c : Class) (sig : Sig) (at : Option ℕ) → at ≡ None → At cs p c → At (class_names cs) p sig.class
      → ((other : ℕ) → (at ≡ Some other) ↔ ((m : Method) × IsMethodAt c sig other m)) → (n : MethodId) → IsDeclared cs sig n → ⊥
  none_declared p c sig at none here named found n d = by (declared_there p c sig n here named d) where
    by : ((other : ℕ) × (k : Method) × IsMethodAt c sig other k × IsNumber cs n c k) → ⊥
    by (other, k, there, number) = none_some other (sym none ∙ (found other).1 (k, there))

  -- nor is one where no class has its class's name
  pub past_declared : (sig : Sig) (q : ℕ) → At (class_names cs) q sig.class → length cs ≤ q → (n : MethodId) → IsDeclared cs sig n → ⊥
  past_declared sig q named past n (d, m, number, same) = by (number_from cs n.0 d m number) where
    by : ((p : ℕ) × (i : ℕ) × At cs p d × At d.methods i m × (is_some m.body ≡ true) × (n.0 ≡ before cs p d i)) → ⊥
    by (p, i, here, own, body, is) =
        let places : p ≡ q = class_there p q d sig.class here named (ap (λ (s : Sig). s.class) (sym same)) in
        let below = here.0 in
        omega (arith, places, past, below)

  -- nor is one whose class has no number
  pub unknown_declared : (sig : Sig) → (Contains (class_names cs) sig.class → ⊥) → (n : MethodId) → IsDeclared cs sig n → ⊥
  unknown_declared sig unknown n (d, m, number, same) = by (number_from cs n.0 d m number) where
    by : ((p : ℕ) × (i : ℕ) × At cs p d × At d.methods i m × (is_some m.body ≡ true) × (n.0 ≡ before cs p d i)) → ⊥
    by (p, i, here, own, body, is) =
        let there = own_name p d here in
        unknown (subst (Contains (class_names cs)) (ap (λ (s : Sig). s.class) (sym same)) (p, there.0, there.1))

-- where no method is declared, no number is right
pub no_number : {P : MethodId → Type 0} (at : Option MethodId) → at ≡ None → ((n : MethodId) → P n → ⊥) → (n : MethodId) → (at ≡ Some n) ↔ P n
no_number at is none n = (λ e. absurd (none_some n (sym is ∙ e)), λ p. absurd (none n p))

-- what belongs to a class
pub own_there : (cs : List Class) (members : Members) (p : ℕ) (c : Class) (own : ClassMembers) (place : ℕ) → AreMembers cs members → At cs p c → At members.classes.items p own → place < length c.methods
    → (x : ClassMembers) × At members.classes.items p x × (place < length x.numbers.items)
own_there cs members p c own place are here there below =
    let count = (are.owns.each p c own here there).numbers.count in
    (own, there, (omega (arith, count, below)))

-- a method with a body, and the number of its class's name
pub owner_of : (cs : List Class) → HaveNames cs → (places : List Place) (m : MethodId) (place : Place) → ArePlaces cs (length (all_methods cs)) places → At places m.0 place
    → (c : Class) × (k : Method) × IsNumber cs m c k × At (class_names cs) place.class c.name
owner_of cs names places m place are at = by (are.each m.0 place at) where
  by : ((c : Class) × (k : Method) × StandsAt cs place c k × At (all_methods cs) m.0 (c, k)) → (c : Class) × (k : Method) × IsNumber cs m c k × At (class_names cs) place.class c.name
  by (c, k, stands, number) = (c, k, number, own_number cs names place.class c stands.0.0 (sym stands.0.1))
