-- What rules make of a taint names only the program's own, where the taint does.
use Rattle.std.proofs.Common.{◌≡◌, ◌≤◌, ◌-◌, ℕ, zero, suc, List, [], ◌∷◌, length, take, drop, Contains, Option, inl, inr, sym, subst, arith}
use Rattle.std.proofs.lemmas.List.{length-drop, take-append-drop}
use Rattle.std.proofs.lemmas.List.Elements.{Contains-append_left, Contains-append_right, Contains-append_cases, Contains-push_cases}
use Rattle.clean_base.specs.declared.ids.FieldId.{FieldId}
use Rattle.clean_base.specs.declared.ids.LocalId.{LocalId}
use Rattle.clean_base.specs.declared.ids.MethodId.{MethodId}
use Rattle.clean_base.specs.declared.ids.StmtId.{StmtId}
use Rattle.access_path.specs.Paths.{inside, HasField, rebase, strip, prepend, with_fields, activate, asleep_from, sleep}
use Rattle.access_path.specs.declared.fact.Base.{Base}
use Rattle.access_path.specs.declared.fact.Fact.{Fact}
use Rattle.access_path.specs.declared.fact.Fact.TheVariants.{Zero, Taint as Tainted}
use Rattle.access_path.specs.declared.fact.Taint.{Taint}
use Rattle.access_path.specs.declared.fact.Wake.{Wake}
use Rattle.access_path.specs.declared.fact.Wake.TheVariants.{Active, Asleep}
use Rattle.flow_rules.specs.Code.{Code}
use Rattle.flow_rules.specs.Locals.{OnTaints, WithZero, Becomes, Says}
use Rattle.flow_rules.specs.Own.{OwnTaint, OwnBase, OwnFact, OwnOperand, OwnWake, IsField, IsStmt}

-- the only item of a list
only_item : {X : Type 0} (x y : X) → Contains (x ∷ []) y → x ≡ y
only_item x y has = elim (Contains-push_cases [] x y has) [ inl none ↦ absurd (omega (arith, none.1)) | inr same ↦ same ]

-- a path that is cut isn't too long, and one that got a field has one
take_few : {X : Type 0} (n : ℕ) (xs : List X) → length (take n xs) ≤ n
take_few zero xs = omega arith
take_few (suc n) [] = omega arith
take_few (suc n) (x ∷ xs) = let rest : length (take n xs) ≤ n = take_few n xs in omega (arith, rest)

pub take_some : {X : Type 0} (n : ℕ) (x : X) (xs : List X) → 1 ≤ n → 1 ≤ length (take n (x ∷ xs))
take_some zero x xs some = absurd (omega (arith, some))
take_some (suc n) x xs some = omega arith

-- a path below another has a field without its first one
pub says_strip : (t : Taint) → 2 ≤ length t.fields → Says (strip t)
says_strip t two = λ asleep. (let less : length (drop 1 t.fields) ≡ length t.fields - 1 = length-drop 1 t.fields in omega (arith, less, two))

module _ (k : ℕ) (code : Code) where
  -- Taints

  -- in another method, at a base that it has
  pub own_rebase : (m n : MethodId) (b : Base) (t : Taint) → OwnBase code n b → OwnTaint code k m t → OwnTaint code k n (rebase b t)
  own_rebase m n b t base own = record { source = own.source; base = base; fields = own.fields; few = own.few; wake = own.wake; says = own.says }

  pub own_elsewhere : (m n : MethodId) (t : Taint) → OwnBase code n t.base → OwnTaint code k m t → OwnTaint code k n t
  own_elsewhere m n t base own = record { source = own.source; base = base; fields = own.fields; few = own.few; wake = own.wake; says = own.says }

  pub own_becomes : (m n : MethodId) (operand : Option LocalId) (t u : Taint) → OwnOperand code n operand → OwnTaint code k m t → Becomes operand t u → OwnTaint code k n u
  own_becomes m n operand t u owns own becomes_ = subst (OwnTaint code k n) (sym becomes_.2) (own_rebase m n _ t (owns becomes_.0 becomes_.1) own)

  own_with_fields : (m : MethodId) (fs : List FieldId) (t : Taint) → ((f : FieldId) → Contains fs f → IsField code f) → length fs ≤ k → Says (with_fields fs t)
      → OwnTaint code k m t → OwnTaint code k m (with_fields fs t)
  own_with_fields m fs t fields few says own = record { source = own.source; base = own.base; fields = fields; few = few; wake = own.wake; says = says }

  pub own_bare : (m : MethodId) (t : Taint) → Says (with_fields [] t) → OwnTaint code k m t → OwnTaint code k m (with_fields [] t)
  own_bare m t says own = own_with_fields m [] t (λ f has. absurd (omega (arith, has.1))) (omega arith) says own

  pub own_inside : (m : MethodId) (t : Taint) → 1 ≤ k → 2 ≤ code.fields → OwnTaint code k m t → OwnTaint code k m (with_fields (inside ∷ []) t)
  own_inside m t some fields own = own_with_fields m (inside ∷ []) t (λ f has. subst (IsField code) (only_item inside f has) (omega (arith, fields))) (omega (arith, some)) (λ asleep. omega arith) own

  pub own_prepend : (m : MethodId) (f : FieldId) (t : Taint) → 1 ≤ k → IsField code f → OwnTaint code k m t → OwnTaint code k m (prepend k f t)
  own_prepend m f t some field own = own_with_fields m (take k (f ∷ t.fields)) t members (take_few k (f ∷ t.fields)) (λ asleep. take_some k f t.fields some) own where
    members : (g : FieldId) → Contains (take k (f ∷ t.fields)) g → IsField code g
    members g has =
        let longer : Contains (f ∷ t.fields) g = subst (λ (fs : List FieldId). Contains fs g) (take-append-drop k (f ∷ t.fields)) (Contains-append_left (take k (f ∷ t.fields)) (drop k (f ∷ t.fields)) g has) in
        elim (Contains-append_cases (f ∷ []) t.fields g longer) [ inl first ↦ subst (IsField code) (only_item f g first) field | inr rest ↦ own.fields g rest ]

  pub own_strip : (m : MethodId) (t : Taint) → Says (strip t) → OwnTaint code k m t → OwnTaint code k m (strip t)
  own_strip m t says own = own_with_fields m (drop 1 t.fields) t members few says own where
    members : (g : FieldId) → Contains (drop 1 t.fields) g → IsField code g
    members g has = own.fields g (subst (λ (fs : List FieldId). Contains fs g) (take-append-drop 1 t.fields) (Contains-append_right (take 1 t.fields) (drop 1 t.fields) g has))

    few : length (drop 1 t.fields) ≤ k
    few = let less : length (drop 1 t.fields) ≡ length t.fields - 1 = length-drop 1 t.fields in omega (arith, less, own.few)

  pub own_activate : (m : MethodId) (t : Taint) → OwnTaint code k m t → OwnTaint code k m (activate t)
  own_activate m t own = record { source = own.source; base = own.base; fields = own.fields; few = own.few; wake = tt; says = λ asleep. absurd (let never : Active ≡ Asleep asleep.0 = asleep.1 in cc) }

  own_asleep_from : (at : StmtId) (w : Wake) → IsStmt code at → OwnWake code w → OwnWake code (asleep_from at w)
  own_asleep_from at Active stmt own = stmt
  own_asleep_from at (Asleep by) stmt own = own

  pub own_sleep : (m : MethodId) (at : StmtId) (t : Taint) → IsStmt code at → HasField t → OwnTaint code k m t → OwnTaint code k m (sleep at t)
  own_sleep m at t stmt field own = record { source = own.source; base = own.base; fields = own.fields; few = own.few; wake = own_asleep_from at t.wake stmt own.wake; says = λ asleep. field }

  -- Facts, from taints

  pub own_on_taints : (R : Taint → Taint → Type 0) (m n : MethodId) → ((t u : Taint) → OwnTaint code k m t → R t u → OwnTaint code k n u)
      → (f g : Fact) → OwnFact code k m f → OnTaints R f g → OwnFact code k n g
  own_on_taints R m n keeps Zero g own none = absurd none
  own_on_taints R m n keeps (Tainted t) Zero own none = absurd none
  own_on_taints R m n keeps (Tainted t) (Tainted u) own r = keeps t u own r

  pub own_with_zero : (R : Taint → Taint → Type 0) (m n : MethodId) → ((t u : Taint) → OwnTaint code k m t → R t u → OwnTaint code k n u)
      → (f g : Fact) → OwnFact code k m f → WithZero R f g → OwnFact code k n g
  own_with_zero R m n keeps Zero Zero own zero_ = tt
  own_with_zero R m n keeps Zero (Tainted u) own none = absurd none
  own_with_zero R m n keeps (Tainted t) Zero own none = absurd none
  own_with_zero R m n keeps (Tainted t) (Tainted u) own r = keeps t u own r
