-- Workers' hands.
use Rattle.std.specs.Prelude.{ℕ, suc, List, [], ◌∷◌, Option, Some, None}

-- how many flights are out
abbrev pub in_hand : {X : Type 0} → List (Option X) → ℕ
in_hand [] = 0
in_hand (None ∷ flights) = in_hand flights
in_hand (Some x ∷ flights) = suc (in_hand flights)
