-- Workers with nothing in hand.
use Rattle.std.specs.Prelude.{◌≡◌, ◌≤◌, ◌<◌, ℕ, suc, List, [], ◌∷◌, length, Contains, Option, Some, None}
use Rattle.std.proofs.Common.{arith, refl}
use Rattle.ifds_model.specs.State.{At}
use Rattle.ifds_model.proofs.Members.{at_one}
use Rattle.ifds_model.proofs.Requeued.{none_apart}
use Rattle.solver_core.specs.Hands.{in_hand}

module _ {X : Type 0} where
  pub first_idle : (flights : List (Option X)) → 1 ≤ length flights → ((x : X) → Contains flights (Some x) → ⊥) → At flights 0 None
  first_idle [] some none = absurd (omega (arith, some))
  first_idle (None ∷ flights) some none = (omega arith, refl)
  first_idle (Some x ∷ flights) some none = absurd (none x (0, omega arith, refl))

  pub none_out : (flights : List (Option X)) → ((x : X) → Contains flights (Some x) → ⊥) → in_hand flights ≡ 0
  none_out [] none = refl
  none_out (None ∷ flights) none = none_out flights (λ x has. none x (suc has.0, omega (arith, has.1), has.2))
  none_out (Some x ∷ flights) none = absurd (none x (0, omega arith, refl))

  -- where each worker's hand is empty, no item is in hand
  pub all_idle : (flights : List (Option X)) → ((w : ℕ) → w < length flights → At flights w None) → (x : X) → Contains flights (Some x) → ⊥
  all_idle flights each x has = none_apart x (at_one flights has.0 None (Some x) (each has.0 has.1) (has.1, has.2))
