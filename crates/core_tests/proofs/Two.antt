-- Two items that make a set.
use Rattle.std.specs.Prelude.{◌≡◌, ◌⊎◌, List, [], ◌∷◌, ◌++◌, Contains}
use Rattle.std.proofs.Common.{inl, inr, sym, ◌∙◌, ap, subst, refl, arith, append_assoc}
use Rattle.ifds_model.specs.Count.{cons_cases}
use Rattle.clean_base.specs.Lists.{AppendsSet}

pub two_added : {X : Type 0} (set : X → Type 0) (old mid new : List X) (a b : X) → mid ≡ old ++ a ∷ [] → new ≡ mid ++ b ∷ [] → ((x : X) → set x → (x ≡ a) ⊎ (x ≡ b)) → set a → set b → AppendsSet set old new
two_added {X} set old mid new a b first then only is_a is_b =
    let both : List X = a ∷ b ∷ [] in (
      both,
      then ∙ ap (λ (xs : List X). xs ++ b ∷ []) first ∙ append_assoc old (a ∷ []) (b ∷ []),
      λ x. (
        λ has. elim (cons_cases a (b ∷ []) x has) [
          | inl same ↦ subst set same is_a
          | inr later ↦ elim (cons_cases b [] x later) [ inl same ↦ subst set same is_b | inr none ↦ absurd (omega (arith, none.1)) ]
        ],
        λ is. elim (only x is) [
          | inl same ↦ subst (λ (y : X). Contains both y) (sym same) (0, omega arith, refl)
          | inr same ↦ subst (λ (y : X). Contains both y) (sym same) (1, omega arith, refl)
        ],
      ),
    )
