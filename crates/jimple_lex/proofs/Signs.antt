-- Signs: the longest there.
use Rattle.std.proofs.Common.{◌≡◌, ℕ, Bool, true, false, ◌||◌, ◌&&◌, List, [], ◌∷◌, refl, arith}
use Rattle.jimple_lex.specs.Forms.{is_sign}
use Rattle.jimple_words.specs.Kinds.{signs}
use Rattle.jimple_lex.specs.Signs.{is_single, is_pair, is_triple}

and_true : (b : Bool) → (b && true) ≡ b
and_true true = refl
and_true false = refl

and_false : (b : Bool) → (b && false) ≡ false
and_false true = refl
and_false false = refl

or_false : (b : Bool) → (b || false) ≡ b
or_false true = refl
or_false false = refl

pub sign_none : is_sign [] ≡ false
unfolding is_sign signs
sign_none = refl

pub sign_one : (a : ℕ) → is_sign (a ∷ []) ≡ is_single a
unfolding is_sign signs
sign_one a = grind (arith, and_true, and_false, or_false)

pub sign_two : (a b : ℕ) → is_sign (a ∷ b ∷ []) ≡ is_pair a b
unfolding is_sign signs
sign_two a b = grind (arith, and_true, and_false, or_false)

pub sign_three : (a b c : ℕ) → is_sign (a ∷ b ∷ c ∷ []) ≡ is_triple a b c
unfolding is_sign signs
sign_three a b c = grind (arith, and_true, and_false, or_false)

pub sign_four : (a b c d : ℕ) (more : List ℕ) → is_sign (a ∷ b ∷ c ∷ d ∷ more) ≡ false
unfolding is_sign signs
sign_four a b c d more = simp (and_false)
