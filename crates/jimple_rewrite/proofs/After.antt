-- What follows a piece of a text, as far as the piece cares.
use Rattle.std.specs.Prelude.{ℕ, Bool, true, ◌||◌, ◌==◌, List, [], ◌∷◌, codes}
use Rattle.std.specs.List.{list_any}
use Rattle.jimple_lex.specs.Bytes.{begins_with}

-- no word, no keyword and no number goes on with these bytes
abbrev pub is_end : ℕ → Bool
is_end c = list_any (λ x. c == x) (codes " ,;:()[]>=\n")

abbrev pub after_value : List ℕ → Bool
after_value [] = true
after_value (c ∷ cs) = is_end c

-- nor does a word with a dot where no segment is behind it
abbrev pub after_word : List ℕ → Bool
after_word rest = after_value rest || begins_with (codes ".<") rest
