-- The method of a class that a call may come to.
use Rattle.std.proofs.Common.{◌≡◌, ◌↔◌, ◌<◌, ◌≤◌, ℕ, List, [], length, All, Contains, Option, Some, None, refl, sym, ap, subst, ◌∙◌, arith}
use Rattle.std.proofs.lemmas.List.{get_or_default}
use Rattle.std.proofs.lemmas.Option.{same_Some}
use Rattle.clean_base.specs.Lists.{At}
use Rattle.jimple_tree.specs.WellFormed.{IsWellFormed, method_key}
use Rattle.jimple_tree.specs.declared.tree.Class.{Class}
use Rattle.jimple_tree.specs.declared.tree.Method.{Method}
use Rattle.jimple_tree.specs.declared.tree.Sig.{Sig}
use Rattle.class_table.specs.Faults.{HaveNames}
use Rattle.class_table.specs.Firsts.{LacksAt, HasAt}
use Rattle.class_table.specs.Hierarchy.{class_names, given}
use Rattle.jimple_tree.specs.Signatures.{HasSignature}
use Rattle.class_table.specs.Index.{IsMethodAt}
use Rattle.class_table.specs.Links.{name_at}
use Rattle.jimple_tree.specs.Signatures.{sig_of}
use Rattle.class_table.specs.Resolving.{HasCallable, MayBeCalled}
use Rattle.class_table.proofs.Exact.{class_there, own_name, well_formed}
use Rattle.class_table.proofs.Named.{given_is, given_own}
use Rattle.class_table.proofs.Signed.{none_some, key_of, one_key, one_item}

-- a method has a signature's name, parameters and result where its own signature is that one in its class
signature_of : (c : Class) (m : Method) (sig : Sig) → sig_of c m ≡ record sig { class = c.name } → HasSignature sig m
signature_of c m sig same = sym (ap (λ (s : Sig). let t : Sig = record { class = sig.class; result = s.result; name = s.name; params = s.params } in t) same)

of_signature : (c : Class) (m : Method) (sig : Sig) → HasSignature sig m → sig_of c m ≡ record sig { class = c.name }
of_signature c m sig same = sym (ap (λ (s : Sig). let t : Sig = record { class = c.name; result = s.result; name = s.name; params = s.params } in t) same)

module _ (cs : List Class) (formed : All IsWellFormed cs) (names : HaveNames cs) (sig : Sig) where
  -- such a method stands in the class at that place
  pub in_class : (p : ℕ) (name : List ℕ) (d : Class) (m : Method) → At (class_names cs) p name → HasCallable cs sig name d m → At cs p d
  in_class p name d m at has = by (given_is cs name d has.class) where
    by : Contains cs d × (d.name ≡ name) → At cs p d
    by ((q, below, is), named) = subst (λ (i : ℕ). At cs i d) (class_there cs formed names q p d name (below, is) at named) (below, is)

  pub named_at : (p : ℕ) → p < length (class_names cs) → At (class_names cs) p (name_at cs p)
  named_at p below = (below, get_or_default (class_names cs) p (name_at cs p) [] below)

  -- no class has the name
  pub past_lacks : (p : ℕ) → p < length (class_names cs) → length cs ≤ p → LacksAt cs sig p
  past_lacks p below past c m has = let at = in_class p (name_at cs p) c m (named_at p below) has in let within = at.0 in omega (arith, past, within)

  -- it stands where a search finds it
  there : (p : ℕ) (c d : Class) (m : Method) → p < length (class_names cs) → At cs p c → HasCallable cs sig (name_at cs p) d m → (k : ℕ) × IsMethodAt c sig k m
  there p c d m below at has =
      let one : d ≡ c = one_item cs p p d c (in_class p (name_at cs p) d m (named_at p below) has) at refl in
      let inside : Contains c.methods m = subst (λ (e : Class). Contains e.methods m) one has.member in
      (inside.0, ((inside.1, inside.2), signature_of d m sig has.named))

  abbrev pub Finds : Class → Option ℕ → Type 0
  Finds c at = (other : ℕ) → (at ≡ Some other) ↔ ((m : Method) × IsMethodAt c sig other m)

  -- the class has no method of the signature
  pub none_lacks : (p : ℕ) (c : Class) (at : Option ℕ) → p < length (class_names cs) → At cs p c → at ≡ None → Finds c at → LacksAt cs sig p
  none_lacks p c at below own none found d m has = by (there p c d m below own has) where
    by : ((k : ℕ) × IsMethodAt c sig k m) → ⊥
    by (k, is) = none_some k (sym none ∙ (found k).1 (m, is))

  -- the one of the signature may not be called
  pub other_lacks : (p : ℕ) (c : Class) (at : Option ℕ) (place : ℕ) (method : Method) → p < length (class_names cs) → At cs p c → at ≡ Some place → Finds c at → At c.methods place method → (MayBeCalled method → ⊥) → LacksAt cs sig p
  other_lacks p c at place method below own is found stands not d m has = by (there p c d m below own has) where
    by : ((k : ℕ) × IsMethodAt c sig k m) → ⊥
    by (k, it) =
        let same : place ≡ k = same_Some place k (sym is ∙ (found k).1 (m, it)) in
        not (subst MayBeCalled (one_item c.methods k place m method it.0 stands (sym same)) has.callable)

  -- the one of the signature may be called
  pub this_has : (p : ℕ) (c : Class) (at : Option ℕ) (place : ℕ) (method : Method) → p < length (class_names cs) → At cs p c → at ≡ Some place → Finds c at → At c.methods place method → MayBeCalled method
      → HasAt cs sig p (record { class = p; method = place })
  this_has p c at place method below own is found stands may =
      let name : c.name ≡ name_at cs p = one_item (class_names cs) p p c.name (name_at cs p) (own_name cs formed names p c own) (named_at p below) refl in
      let told = (found place).0 is in
      let one : told.0 ≡ method = one_item c.methods place place told.0 method told.1.0 stands refl in
      record {
        class = c;
        method = method;
        stands = (own, stands);
        callable = record {
          class = subst (λ (n : List ℕ). given cs n ≡ Some c) name (given_own cs names c (p, own.0, own.1));
          member = (place, stands.0, stands.1);
          named = of_signature c method sig (subst (HasSignature sig) one told.1.1);
          callable = may;
        };
      }

  -- a name has one such method
  pub one_callable : (name : List ℕ) (c d : Class) (m n : Method) → HasCallable cs sig name c m → HasCallable cs sig name d n → (c ≡ d) × (m ≡ n)
  one_callable name c d m n has other =
      let class : c ≡ d = same_Some c d (sym has.class ∙ other.class) in
      let inside : Contains d.methods m = subst (λ (e : Class). Contains e.methods m) class has.member in
      let its = other.member in
      let listed = (given_is cs name d other.class).0 in
      let key : method_key m ≡ method_key n = key_of sig m (signature_of c m sig has.named) ∙ sym (key_of sig n (signature_of d n sig other.named)) in
      let at : At d.methods inside.0 m = (inside.1, inside.2) in
      let stands : At d.methods its.0 n = (its.1, its.2) in
      (class, one_item d.methods inside.0 its.0 m n at stands (one_key method_key d.methods (well_formed cs formed names listed.0 d (listed.1, listed.2)).methods inside.0 its.0 m n at stands key))
