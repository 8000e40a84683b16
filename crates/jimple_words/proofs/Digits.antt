-- The number that digits write, from their front.
use Rattle.std.proofs.Common.{◌≡◌, ℕ, suc, ◌+◌, ◌-◌, ◌*◌, ◌<◌, ◌≤◌, nat_le, false, List, [], ◌∷◌, length, drop, None, refl, ◌∙◌, arith, rules}
use Rattle.std.proofs.Math.ListN.{get_or}
use Rattle.std.proofs.Math.Seq.{drop-cons}
use Rattle.jimple_words.specs.Kinds.{read_digits, parameter_number}

-- more digits never write less
pub grows : (n : ℕ) (ds : List ℕ) → n ≤ read_digits n ds
grows n [] = omega arith
grows n (d ∷ ds) = let more = grows (n * 10 + (d - 48)) ds in omega (arith, more)

-- a front that writes too much
pub too_high : (digits : List ℕ) (n i : ℕ) → i < length digits → read_digits 0 digits ≡ read_digits n (drop i digits) → 254 < n * 10 + (get_or digits i 0 - 48) → parameter_number digits ≡ None
too_high digits n i less rest much =
    let here : drop i digits ≡ get_or digits i 0 ∷ drop (suc i) digits = drop-cons digits i 0 less in
    let is : read_digits 0 digits ≡ read_digits (n * 10 + (get_or digits i 0 - 48)) (drop (suc i) digits) = rest ∙ rw here refl in
    let more = grows (n * 10 + (get_or digits i 0 - 48)) (drop (suc i) digits) in
    let far : nat_le (read_digits 0 digits) 254 ≡ false = search (rules, arith, much, more, is) in
    rw far refl
