-- Lists of lists one behind another.
use Rattle.std.proofs.Common.{◌≡◌, List, [], ◌∷◌, ◌++◌, flat_map, ap, sym, ◌∙◌, append-nil}
use Rattle.std.proofs.lemmas.Grind.{flat_map-append}

-- one list more
pub one_list_more : {X : Type 0} (lists : List (List X)) (own all new : List X) → all ≡ flat_map (λ (xs : List X). xs) lists → new ≡ all ++ own → new ≡ flat_map (λ (xs : List X). xs) (lists ++ own ∷ [])
one_list_more {X} lists own all new are is =
    is ∙ ap (λ (xs : List X). xs ++ own) are
    ∙ sym (flat_map-append (λ (xs : List X). xs) lists (own ∷ []) ∙ ap (λ (xs : List X). flat_map (λ (ys : List X). ys) lists ++ xs) (append-nil own))
