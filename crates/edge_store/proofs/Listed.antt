-- Lists without repeats.
use Rattle.std.proofs.Common.{◌≡◌, ◌≢◌, ℕ, ◌<◌, List, [], ◌∷◌, ◌++◌, length, get_or, set, sym, ap, subst, ◌∙◌, arith, inl, inr, ◌⊎◌}
use Rattle.std.proofs.lemmas.List.{length-set, get_or-set_same, get_or-set_other}
use Rattle.std.proofs.lemmas.Bool.Decides.{eqb_tells}
use Rattle.std.specs.Prelude.{Contains}
use Rattle.std.proofs.lemmas.List.Elements.{Contains-get_or}
use Rattle.std.proofs.lemmas.List.Quantifiers.{all_pairs_push}
use Rattle.ifds_model.specs.State.{IsDistinct}

-- a list without repeats stays so with one more item that it lacks
pub distinct_push : {X : Type 0} (xs : List X) (y : X) → IsDistinct xs → (Contains xs y → ⊥) → IsDistinct (xs ++ y ∷ [])
distinct_push xs y distinct lacks =
    all_pairs_push (λ a b. a ≢ b) xs y distinct (λ k d below same. lacks (subst (Contains xs) same (Contains-get_or xs k d below)))

pub same_number_or_not : (a b : ℕ) → (a ≡ b) ⊎ (a ≢ b)
same_number_or_not a b = elim (eqb_tells a b) [ inl same ↦ inl same.1 | inr other ↦ inr other.1 ]

-- and with an item that it lacks in the place of another
pub distinct_set : {X : Type 0} (xs : List X) (n : ℕ) (y : X) → IsDistinct xs → (Contains xs y → ⊥) → IsDistinct (set xs n y)
distinct_set {X} xs n y distinct lacks i j d below within same =
    let len : length (set xs n y) ≡ length xs = length-set xs n y in
    let inside : j < length xs = omega arith in
    let clash : (k : ℕ) → k < length xs → y ≡ get_or xs k d → ⊥ = λ k small is. lacks (subst (Contains xs) (sym is) (Contains-get_or xs k d small)) in
    elim (same_number_or_not i n) [
      | inl at ↦ clash j inside (sym (ap (λ (k : ℕ). get_or (set xs n y) k d) at ∙ get_or-set_same xs n y d (omega arith)) ∙ same ∙ get_or-set_other xs n j y d (λ e. omega arith))
      | inr other ↦ elim (same_number_or_not j n) [
        | inl at ↦ clash i (omega arith) (sym (ap (λ (k : ℕ). get_or (set xs n y) k d) at ∙ get_or-set_same xs n y d (omega arith)) ∙ sym same ∙ get_or-set_other xs n i y d other)
        | inr apart ↦ distinct i j d below inside (sym (get_or-set_other xs n i y d other) ∙ same ∙ get_or-set_other xs n j y d apart)
      ]
    ]
