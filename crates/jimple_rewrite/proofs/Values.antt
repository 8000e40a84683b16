-- Numbers end where the text behind them says so.
use Rattle.std.proofs.Common.{◌≡◌, ℕ, Bool, true, false, ◌||◌, ◌==◌, List, [], ◌∷◌, sym, subst, refl, arith, codes}
use Rattle.jimple_lex.specs.Bytes.{goes_on}
use Rattle.jimple_words.specs.Bytes.{is_digit, is_letter}
use Rattle.jimple_lex.specs.Forms.{IsNumber, unsigned, negative, named, named_negative}
use Rattle.jimple_lex.specs.Tokens.{Longest}
use Rattle.jimple_lex.proofs.Parts.{NotNext}
use Rattle.jimple_lex.proofs.Numbers.{NotOn, last_of, unsigned_longest, negative_longest, named_longest, named_negative_longest}
use Rattle.jimple_rewrite.proofs.After.{after_value}
use Rattle.jimple_rewrite.proofs.Words.{none_of}

-- what a number may go on with
abbrev may_go_on : ℕ → Bool
may_go_on c = is_digit c || is_letter c || (c == 46) || (c == 43) || (c == 45)

goes_by : (before c : ℕ) → may_go_on c ≡ false → goes_on before c ≡ false
goes_by before c e = grind arith

not_on : (before : ℕ) (rest : List ℕ) → after_value rest ≡ true → NotOn before rest
not_on before [] a = tt
not_on before (c ∷ cs) a = goes_by before c (none_of may_go_on c (codes " ,;:()[]>=\n") refl a)

no_letter : (rest : List ℕ) → after_value rest ≡ true → NotNext is_letter rest
no_letter [] a = tt
no_letter (c ∷ cs) a = none_of is_letter c (codes " ,;:()[]>=\n") refl a

pub number_token : (text rest : List ℕ) → IsNumber text → after_value rest ≡ true → Longest IsNumber text rest
number_token text rest (unsigned d ds e h g) a = subst (λ (t : List ℕ). Longest IsNumber t rest) (sym e) (unsigned_longest d ds rest h g (not_on (last_of d ds) rest a))
number_token text rest (negative d ds e h g) a = subst (λ (t : List ℕ). Longest IsNumber t rest) (sym e) (negative_longest d ds rest h g (not_on (last_of d ds) rest a))
number_token text rest (named c cs e h) a = subst (λ (t : List ℕ). Longest IsNumber t rest) (sym e) (named_longest c cs rest h.0 h.1 (no_letter rest a))
number_token text rest (named_negative c cs e h) a = subst (λ (t : List ℕ). Longest IsNumber t rest) (sym e) (named_negative_longest c cs rest h.0 h.1 (no_letter rest a))
