-- The numbers of methods: where they come from, and one method more.
use Rattle.std.proofs.Common.{◌≡◌, ◌⊎◌, ◌<◌, ◌≤◌, ◌+◌, ℕ, Bool, true, false, cond, is_some, List, [], ◌∷◌, ◌++◌, length, get_or, take, Option, Some, None, refl, sym, ap, append-nil, subst, ◌∙◌, inl, inr, arith}
use Rattle.std.proofs.lemmas.List.{length-append, get_or_append_left, get_or_default, get_or_push, take_more, take_all, length-map}
use Rattle.std.proofs.lemmas.Grind.{flat_map-append}
use Rattle.std.proofs.lemmas.List.Elements.{filter_more}
use Rattle.std.proofs.lemmas.List.Folds.{length-flat_map-take}
use Rattle.clean_base.specs.Lists.{At}
use Rattle.clean_base.specs.declared.ids.MethodId.{MethodId}
use Rattle.jimple_tree.specs.Bodies.{bodied}
use Rattle.jimple_tree.specs.declared.tree.Class.{Class}
use Rattle.jimple_tree.specs.declared.tree.Method.{Method}
use Rattle.class_table.specs.Members.{AreOwn, ArePlaces, IsMember, IsNumbered, StandsAt, method_id}
use Rattle.class_table.specs.Methods.{all_methods, methods_of}
use Rattle.class_table.specs.declared.members.ClassMembers.{ClassMembers}
use Rattle.class_table.specs.declared.members.Place.{Place}
use Rattle.class_table.proofs.Picked.{flat_at, flat_from, filter_at, filter_from, filter_take, pair_at, pair_from}

-- how many methods with a body stand before a method's place
abbrev pub before : List Class → ℕ → Class → ℕ → ℕ
before cs p c k = length (all_methods (take p cs)) + length (bodied (take k c.methods))

pub number_at : (cs : List Class) (p : ℕ) (c : Class) (k : ℕ) (m : Method) → At cs p c → At c.methods k m → is_some m.body ≡ true → At (all_methods cs) (before cs p c k) (c, m)
number_at cs p c k m at there body =
    flat_at methods_of cs p c (length (bodied (take k c.methods))) (c, m) at (pair_at c (bodied c.methods) (length (bodied (take k c.methods))) m (filter_at (λ (x : Method). is_some x.body) c.methods k m there body))

-- a method with this number has a body, and stands in one of the classes
pub number_from : (cs : List Class) (n : ℕ) (c : Class) (m : Method) → At (all_methods cs) n (c, m)
    → (p : ℕ) × (k : ℕ) × At cs p c × At c.methods k m × (is_some m.body ≡ true) × (n ≡ before cs p c k)
number_from cs n c m at = from_part (flat_from methods_of cs n (c, m) at) where
  chosen : (p : ℕ) (j : ℕ) → At cs p c → n ≡ length (all_methods (take p cs)) + j → (k : ℕ) × At c.methods k m × (is_some m.body ≡ true) × (j ≡ length (bodied (take k c.methods)))
      → (p : ℕ) × (k : ℕ) × At cs p c × At c.methods k m × (is_some m.body ≡ true) × (n ≡ before cs p c k)
  chosen p j at number (k, there, body, inner) = (p, k, at, there, body, omega (arith, number, inner))

  from_part : ((p : ℕ) × (d : Class) × (j : ℕ) × At cs p d × At (methods_of d) j (c, m) × (n ≡ length (all_methods (take p cs)) + j))
      → (p : ℕ) × (k : ℕ) × At cs p c × At c.methods k m × (is_some m.body ≡ true) × (n ≡ before cs p c k)
  from_part (p, d, j, at, own, number) =
      let pair = pair_from d (bodied d.methods) j c m own in
      let here : At cs p c = subst (At cs p) pair.0 at in
      let inner : At (bodied c.methods) j m = subst (λ (e : Class). At (bodied e.methods) j m) pair.0 pair.1 in
      chosen p j here number (filter_from (λ (x : Method). is_some x.body) c.methods j m inner)

-- the numbers of the first so many methods of a class
pub record AreNumbersBelow (cs : List Class) (c : Class) (count : ℕ) (numbers : List (Option MethodId)) : Type 0 where
  pub counted : length numbers ≡ count
  pub each : (k : ℕ) (m : Method) (number : Option MethodId) → At c.methods k m → At numbers k number → IsNumbered cs c m number

-- no method with a body behind the last, and a class's last method is before the next class's first
pub before_all : (cs : List Class) (p : ℕ) (c : Class) → At cs p c → before cs p c (length c.methods) ≡ length (all_methods (take (p + 1) cs))
before_all cs p c at =
    let next : take (p + 1) cs ≡ take p cs ++ c ∷ [] = take_more cs p c at.0 ∙ ap (λ (x : Class). take p cs ++ x ∷ []) at.1 in
    let parts : all_methods (take (p + 1) cs) ≡ all_methods (take p cs) ++ (methods_of c ++ []) = ap all_methods next ∙ flat_map-append methods_of (take p cs) (c ∷ []) in
    let both = length-append (all_methods (take p cs)) (methods_of c ++ []) in
    let own = length-append (methods_of c) [] in
    let mapped = length-map {B = Class × Method} (bodied c.methods) (λ (m : Method). (c, m)) in
    let whole = ap length parts in
    let each : take (length c.methods) c.methods ≡ c.methods = take_all (length c.methods) c.methods (omega arith) in
    let all = ap (λ (ms : List Method). length (bodied ms)) each in
    omega (arith, both, own, mapped, whole, all)

-- no number is above the count of all
pub before_within : (cs : List Class) (p : ℕ) (c : Class) (k : ℕ) → At cs p c → before cs p c k ≤ length (all_methods cs)
before_within cs p c k at =
    let less = length-flat_map-take methods_of cs p c at.0 in
    let same = ap (λ (x : Class). length (methods_of x)) at.1 in
    let mapped = length-map {B = Class × Method} (bodied c.methods) (λ (m : Method). (c, m)) in
    let few = filter_take (λ (m : Method). is_some m.body) c.methods k in
    omega (arith, less, same, mapped, few)

-- one method more

-- the number that is added for a method
abbrev pub number_of : List (Option MethodId) → Bool → ℕ → List (Option MethodId)
number_of old body at = old ++ cond body (Some (method_id at)) None ∷ []

numbered : (cs : List Class) (p : ℕ) (c : Class) (k : ℕ) (m : Method) (at : ℕ) → At cs p c → At c.methods k m → at ≡ before cs p c k
    → (b : Bool) → is_some m.body ≡ b → IsNumbered cs c m (cond b (Some (method_id at)) None)
numbered cs p c k m at here there count true body = subst (λ (n : ℕ). At (all_methods cs) n (c, m)) (sym count) (number_at cs p c k m here there body)
numbered cs p c k m at here there count false body = body

pub numbers_more : (cs : List Class) (p : ℕ) (c : Class) (k : ℕ) (m : Method) (at : ℕ) (old new : List (Option MethodId)) → At cs p c → At c.methods k m → at ≡ before cs p c k
    → AreNumbersBelow cs c k old → new ≡ number_of old (is_some m.body) at → AreNumbersBelow cs c (k + 1) new
numbers_more cs p c k m at old new here there count are more = record {
  counted = let long = length-append old (cond (is_some m.body) (Some (method_id at)) None ∷ []) in let e = ap length more in let was = are.counted in omega (arith, long, e, was);
  each = λ j x number stands is.
      let e = ap length more in
      let long = length-append old (cond (is_some m.body) (Some (method_id at)) None ∷ []) in
      let was = are.counted in
      let below = is.0 in
      elim (last_or_before j k (omega (arith, e, long, was, below))) [
        | inl less ↦
            let same : get_or new j number ≡ get_or old j number = ap (λ (ns : List (Option MethodId)). get_or ns j number) more ∙ get_or_append_left old _ number j (omega (arith, was, less)) in
            are.each j x number stands ((omega (arith, was, less)), sym same ∙ is.1)
        | inr last ↦
            let new_one : get_or new k number ≡ cond (is_some m.body) (Some (method_id at)) None = ap (λ (ns : List (Option MethodId)). get_or ns k number) more ∙ get_or_push old _ number k was in
            let same : cond (is_some m.body) (Some (method_id at)) None ≡ number = sym new_one ∙ ap (λ (i : ℕ). get_or new i number) (sym last) ∙ is.1 in
            let one : m ≡ x = sym there.1 ∙ get_or_default c.methods k m x there.0 ∙ ap (λ (i : ℕ). get_or c.methods i x) (sym last) ∙ stands.1 in
            subst (λ (y : Method). IsNumbered cs c y number) one (subst (IsNumbered cs c m) same (numbered cs p c k m at here there count (is_some m.body) refl))
      ];
} where
  last_or_before : (j k : ℕ) → j < k + 1 → (j < k) ⊎ (j ≡ k)
  last_or_before j k h = grind arith

-- the place that is added for a method
abbrev pub places_with : List Place → Bool → Place → List Place
places_with old body place = old ++ cond body (place ∷ []) []

pub places_more : (cs : List Class) (p : ℕ) (c : Class) (k : ℕ) (m : Method) (place : Place) (old new : List Place) → At cs p c → At c.methods k m → place ≡ record { class = p; method = k }
    → ArePlaces cs (before cs p c k) old → new ≡ places_with old (is_some m.body) place → ArePlaces cs (before cs p c (k + 1)) new
places_more cs p c k m place old new here there placed are more = by (is_some m.body) refl where
  next : bodied (take (k + 1) c.methods) ≡ bodied (take k c.methods) ++ cond (is_some m.body) (m ∷ []) []
  next = filter_more (λ (x : Method). is_some x.body) c.methods k m there.0 ∙ ap (λ (x : Method). bodied (take k c.methods) ++ cond (is_some x.body) (x ∷ []) []) there.1

  Holds : List Place → ℕ → Type 0
  Holds places n = (place : Place) → At places n place → (c : Class) × (m : Method) × StandsAt cs place c m × At (all_methods cs) n (c, m)

  last_or_before : (j k : ℕ) → j < k + 1 → (j < k) ⊎ (j ≡ k)
  last_or_before j k h = grind arith

  by : (b : Bool) → is_some m.body ≡ b → ArePlaces cs (before cs p c (k + 1)) new
  by true body =
      let added : new ≡ old ++ place ∷ [] = more ∙ ap (λ (b : Bool). places_with old b place) body in
      let long = length-append old (place ∷ []) in
      let e = ap length added in
      let was = are.counted in
      let rest = length-append (bodied (take k c.methods)) (m ∷ []) in
      let count = ap length (next ∙ ap (λ (b : Bool). bodied (take k c.methods) ++ cond b (m ∷ []) []) body) in
      record {
        counted = omega (arith, long, e, was, rest, count);
        each = λ n x at. let below = at.0 in elim (last_or_before n (length old) (omega (arith, e, long, below))) [
          | inl less ↦ are.each n x (less, sym (get_or_append_left old (place ∷ []) x n less) ∙ ap (λ (ps : List Place). get_or ps n x) (sym added) ∙ at.1)
          | inr last ↦
              let is : place ≡ x = sym (get_or_push old place x (length old) refl) ∙ ap (λ (ps : List Place). get_or ps (length old) x) (sym added) ∙ ap (λ (i : ℕ). get_or new i x) (sym last) ∙ at.1 in
              let same : record { class = p; method = k } ≡ x = sym placed ∙ is in
              let number : before cs p c k ≡ n = sym was ∙ sym last in
              (c, m, subst (λ (y : Place). StandsAt cs y c m) same (here, there), subst (λ (i : ℕ). At (all_methods cs) i (c, m)) number (number_at cs p c k m here there body))
        ];
      }
  by false body =
      let added : new ≡ old = more ∙ ap (λ (b : Bool). places_with old b place) body ∙ append-nil old in
      let rest = length-append (bodied (take k c.methods)) [] in
      let count = ap length (next ∙ ap (λ (b : Bool). bodied (take k c.methods) ++ cond b (m ∷ []) []) body) in
      let same : before cs p c k ≡ before cs p c (k + 1) = omega (arith, rest, count) in
      subst (λ (ps : List Place). ArePlaces cs (before cs p c (k + 1)) ps) (sym added) (subst (λ (n : ℕ). ArePlaces cs n old) same are)

-- one class more
pub owns_more : (cs : List Class) (at : ℕ) (old new : List ClassMembers) (own : ClassMembers) → AreOwn cs at old → ((c : Class) → At cs at c → IsMember cs c own) → new ≡ old ++ own ∷ [] → AreOwn cs (at + 1) new
owns_more cs at old new own are is more = record {
  counted = let long = length-append old (own ∷ []) in let e = ap length more in let was = are.counted in omega (arith, long, e, was);
  each = λ p c x here there.
      let long = length-append old (own ∷ []) in
      let e = ap length more in
      let was = are.counted in
      let below = there.0 in
      elim (last_or_before p at (omega (arith, e, long, was, below))) [
        | inl less ↦ are.each p c x here ((omega (arith, was, less)), sym (ap (λ (ns : List ClassMembers). get_or ns p x) more ∙ get_or_append_left old (own ∷ []) x p (omega (arith, was, less))) ∙ there.1)
        | inr last ↦
            let same : own ≡ x = sym (ap (λ (ns : List ClassMembers). get_or ns at x) more ∙ get_or_push old own x at was) ∙ ap (λ (i : ℕ). get_or new i x) (sym last) ∙ there.1 in
            subst (IsMember cs c) same (is c (subst (λ (i : ℕ). At cs i c) last here))
      ];
} where
  last_or_before : (j k : ℕ) → j < k + 1 → (j < k) ⊎ (j ≡ k)
  last_or_before j k h = grind arith
