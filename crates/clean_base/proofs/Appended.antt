-- What is appended piece by piece, as a set.
use Rattle.std.proofs.Common.{◌≡◌, ◌⊎◌, List, [], ◌∷◌, ◌++◌, inl, inr, sym, ◌∙◌, ap, arith, append_assoc, append-nil, ◌↔◌, Result, Ok, Err, OnOk}
use Rattle.std.proofs.lemmas.List.Elements.{Contains-push_cases, Contains-append_left, Contains-append_right, Contains-append_cases}
use Rattle.clean_base.specs.Lists.{AppendsSet}

module _ {X : Type 0} where
  -- one set, and then another
  pub appends_both : (s t u : X → Type 0) (old mid new : List X) → ((x : X) → u x ↔ (s x ⊎ t x)) → AppendsSet s old mid → AppendsSet t mid new → AppendsSet u old new
  appends_both s t u old mid new splits first second =
      let whole : new ≡ old ++ (first.0 ++ second.0) = second.1 ∙ ap (λ (xs : List X). xs ++ second.0) first.1 ∙ append_assoc old first.0 second.0 in (
        first.0 ++ second.0,
        whole,
        λ x. (
          (λ has. (splits x).1 (elim (Contains-append_cases first.0 second.0 x has) [ inl early ↦ inl ((first.2 x).0 early) | inr late ↦ inr ((second.2 x).0 late) ])),
          (λ is. elim ((splits x).0 is) [ inl early ↦ Contains-append_left first.0 second.0 x ((first.2 x).1 early) | inr late ↦ Contains-append_right first.0 second.0 x ((second.2 x).1 late) ]),
        ),
      )

  pub appends_both_if : {E : Type 0} (r : Result (Unit {0}) E) (s t u : X → Type 0) (old mid new : List X) → ((x : X) → u x ↔ (s x ⊎ t x)) → AppendsSet s old mid → OnOk r (AppendsSet t mid new) → OnOk r (AppendsSet u old new)
  appends_both_if (Ok done) s t u old mid new splits first second = appends_both s t u old mid new splits first second
  appends_both_if (Err e) s t u old mid new splits first second = tt

  -- nothing
  pub appends_none : (set : X → Type 0) (old : List X) → ((x : X) → set x → ⊥) → AppendsSet set old old
  appends_none set old none = ([], sym (append-nil old), λ x. ((λ has. absurd (omega (arith, has.1))), (λ member. absurd (none x member))))

  -- the same set in other words
  pub appends_same : (s u : X → Type 0) (old new : List X) → ((x : X) → u x ↔ s x) → AppendsSet s old new → AppendsSet u old new
  appends_same s u old new same adds = (adds.0, adds.1, λ x. ((λ has. (same x).1 ((adds.2 x).0 has)), (λ is. (adds.2 x).1 ((same x).0 is))))

  pub appends_same_if : {E : Type 0} (r : Result (Unit {0}) E) (s u : X → Type 0) (old new : List X) → ((x : X) → u x ↔ s x) → OnOk r (AppendsSet s old new) → OnOk r (AppendsSet u old new)
  appends_same_if (Ok done) s u old new same adds = appends_same s u old new same adds
  appends_same_if (Err e) s u old new same adds = tt

  -- one item
  pub appends_one : (set : X → Type 0) (old new : List X) (y : X) → ((x : X) → set x ↔ (x ≡ y)) → new ≡ old ++ y ∷ [] → AppendsSet set old new
  appends_one set old new y only is = (
    y ∷ [],
    is,
    λ x. (
      (λ has. (only x).1 (elim (Contains-push_cases [] y x has) [ inl none ↦ absurd (omega (arith, none.1)) | inr same ↦ sym same ])),
      (λ in_set. (0, omega arith, sym ((only x).0 in_set))),
    ),
  )
