-- Depth-first walks.
use Rattle.std.specs.Prelude.{Bool, List, [], ◌∷◌, ◌++◌, if◌then◌else◌}
use Rattle.std.specs.List.{fold, list_any}

-- what a walk from these items meets, in its order: each item is followed at once by all that is met below it
pub data Walk {X : Type 0} (next : X → List X) : List X → List X → Type 0 where
  none : Walk next [] []
  down : {x : X} {xs below rest : List X} → Walk next (next x) below → Walk next xs rest → Walk next (x ∷ xs) (x ∷ below ++ rest)

-- the items, each where it stands first
abbrev pub each_once : {X : Type 0} → (X → X → Bool) → List X → List X
each_once {X} eq xs = fold (λ (seen : List X) x. if list_any (eq x) seen then seen else seen ++ x ∷ []) [] xs
