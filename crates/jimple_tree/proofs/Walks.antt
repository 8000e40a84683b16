-- A walk over a list that holds a fact of each item so far.
use Rattle.std.proofs.Common.{◌≡◌, ℕ, ◌+◌, ◌<◌, ◌≤◌, List, length, take, get_or, subst, ◌∙◌}
use Rattle.std.specs.Prelude.{All}
use Rattle.std.proofs.lemmas.List.{take_all}
use Rattle.std.proofs.lemmas.List.Elements.{All-more}

pub one_more : {X : Type 0} (P : X → Type 0) (xs : List X) (i : ℕ) (x : X)
    → i < length xs → x ≡ get_or xs i x → All P (take i xs) → P x → All P (take (i + 1) xs)
one_more P xs i x inside read before here = All-more P xs i x inside before (subst P read here)

pub whole : {X : Type 0} (P : X → Type 0) (xs ys : List X) (i : ℕ)
    → xs ≡ ys → length xs ≤ i → All P (take i xs) → All P ys
whole P xs ys i same past each = subst (All P) (take_all i xs past ∙ same) each
