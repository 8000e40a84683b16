-- Texts that are written in two parts.
use Rattle.std.proofs.Common.{◌≡◌, List, ◌++◌, ap, ◌∙◌, append_assoc, Result, Ok, Err, OnOk}

pub two_parts : {X T E : Type 0} (r : Result T E) (old first new a b : List X) → first ≡ old ++ a → OnOk r (new ≡ first ++ b) → OnOk r (new ≡ old ++ (a ++ b))
two_parts {X} (Ok u) old first new a b one two = two ∙ ap (λ (xs : List X). xs ++ b) one ∙ append_assoc old a b
two_parts (Err e) old first new a b one two = tt
