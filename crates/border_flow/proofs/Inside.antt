-- What a call hands over of a taint, in parts.
use Rattle.std.proofs.Common.{◌≡◌, ◌⊎◌, ◌↔◌, length, Option, Some, inl, inr, sym, ◌∙◌, ap, subst, refl}
use Rattle.clean_base.specs.declared.ids.FieldId.{FieldId}
use Rattle.clean_base.specs.declared.ids.LocalId.{LocalId}
use Rattle.ifds_model.specs.declared.node.Dir.TheVariants.{Forward, Backward}
use Rattle.access_path.specs.Paths.{HasField, rebase}
use Rattle.access_path.specs.declared.fact.Base.{Base}
use Rattle.access_path.specs.declared.fact.Base.TheVariants.{Local, This, Param, Static}
use Rattle.access_path.specs.declared.fact.Fact.{Fact}
use Rattle.access_path.specs.declared.fact.Fact.TheVariants.{Zero, Taint as Tainted}
use Rattle.access_path.specs.declared.fact.Taint.{Taint}
use Rattle.access_path.specs.declared.view.CallView.{CallView}
use Rattle.flow_rules.specs.Border.{Enters, IsInside, IsInsideAtEnd, Renamed}
use Rattle.flow_rules.specs.Locals.{OnTaints}
use Rattle.flow_rules.specs.Only.{IsOnly, IsIn}
use Rattle.flow_rules.proofs.Lifted.{only_some}
use Rattle.border_flow.specs.Parts.{EntersFirst, EntersThis}

-- a local, as the receiver and as the parameters
pub local_splits : (call : CallView) (t : Taint) (x : LocalId) (o : Option Taint) → t.base ≡ Local x → IsOnly (EntersThis call t x) o
    → (g : Fact) → OnTaints (Renamed (IsInside call)) (Tainted t) g ↔ (IsIn o g ⊎ EntersFirst call.args (length call.args) t x g)
local_splits call t x o of only Zero = ((λ none. absurd none), (λ is. elim is [ inl none ↦ absurd none | inr first ↦ absurd (let e = first.3 in cc) ]))
local_splits call t x o of only (Tainted u) = (
  (λ is. elim (subst (λ (base : Base). IsInside call base is.0) of is.1) [
    | inl receiver ↦ inl ((only_some (EntersThis call t x) o only u).0 (receiver.0, is.2 ∙ ap (λ (b : Base). rebase b t) receiver.1))
    | inr param ↦ inr (param.0, param.1.0, param.1, ap Tainted (is.2 ∙ ap (λ (b : Base). rebase b t) param.2))
  ]),
  (λ is. elim is [
    | inl receiver ↦
        let this = (only_some (EntersThis call t x) o only u).1 receiver in
        (This, subst (λ (base : Base). IsInside call base This) (sym of) (inl (this.0, refl)), this.1)
    | inr first ↦ (
      Param first.0,
      subst (λ (base : Base). IsInside call base (Param first.0)) (sym of) (inr (first.0, first.2, refl)),
      let e = first.3 in cc,
    )
  ]),
)

-- a static field, as itself
pub static_only : (call : CallView) (t : Taint) (f : FieldId) → t.base ≡ Static f → IsOnly (Renamed (IsInside call) t) (Some t)
static_only call t f of = λ u. (
  (λ is.
      let same : is.0 ≡ t.base = subst (λ (base : Base). IsInside call base is.0) of is.1 ∙ sym of in
      is.2 ∙ ap (λ (b : Base). rebase b t) same),
  (λ same. (t.base, subst (λ (base : Base). IsInside call base t.base) (sym of) of, same)),
)

-- forward
pub forward_same : (call : CallView) (t : Taint) (g : Fact) → Enters call Forward (Tainted t) g ↔ OnTaints (Renamed (IsInside call)) (Tainted t) g
forward_same call t Zero = ((λ none. none), (λ none. none))
forward_same call t (Tainted u) = ((λ is. is), (λ is. is))

-- backward, of a path with a field
pub backward_splits : (call : CallView) (t : Taint) (o : Option Taint) → HasField t → IsOnly (Renamed (IsInsideAtEnd call) t) o
    → (g : Fact) → Enters call Backward (Tainted t) g ↔ (OnTaints (Renamed (IsInside call)) (Tainted t) g ⊎ IsIn o g)
backward_splits call t o field only Zero = ((λ none. absurd none), (λ is. elim is [ inl none ↦ absurd none | inr none ↦ absurd none ]))
backward_splits call t o field only (Tainted u) = (
  (λ is. elim (is.1) [ inl inside ↦ inl inside | inr end ↦ inr ((only_some (Renamed (IsInsideAtEnd call) t) o only u).0 end) ]),
  (λ is. elim is [ inl inside ↦ (field, inl inside) | inr same ↦ (field, inr ((only_some (Renamed (IsInsideAtEnd call) t) o only u).1 same)) ]),
)
