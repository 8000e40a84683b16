-- What may follow a token of canonical text.
use Rattle.std.proofs.Common.{◌≡◌, ℕ, Bool, true, false, not, List, [], ◌∷◌, refl, codes}
use Rattle.std.specs.Prelude.{◌==◌}
use Rattle.std.specs.List.{list_any}
use Rattle.std.proofs.lemmas.Bool.{not-false, or_left}
use Rattle.jimple_lex.specs.Bytes.{begins_with}
use Rattle.jimple_rewrite.proofs.After.{is_end, after_value, after_word}
use Rattle.jimple_rewrite.proofs.Signs.{goes_longer}
use Rattle.jimple_rewrite.proofs.Words.{none_of}

-- no token goes on with these bytes
abbrev pub stops : List ℕ → Bool
stops [] = true
stops (c ∷ cs) = list_any (λ x. c == x) (codes " ,;:()[]\n")

abbrev pub Stop : List ℕ → Type 0
Stop rest = stops rest ≡ true

abbrev pub WordStop : List ℕ → Type 0
WordStop rest = after_word rest ≡ true

pub value_stop : (rest : List ℕ) → Stop rest → after_value rest ≡ true
value_stop [] s = refl
value_stop (c ∷ cs) s = not-false (is_end c) (none_of (λ x. not (is_end x)) c (codes " ,;:()[]\n") refl s)

pub word_stop : (rest : List ℕ) → Stop rest → WordStop rest
word_stop rest s = or_left (after_value rest) (begins_with (codes ".<") rest) (value_stop rest s)

pub sign_stop : (rest : List ℕ) → Stop rest → goes_longer rest ≡ false
sign_stop [] s = refl
sign_stop (c ∷ cs) s = none_of (λ x. goes_longer (x ∷ [])) c (codes " ,;:()[]\n") refl s
