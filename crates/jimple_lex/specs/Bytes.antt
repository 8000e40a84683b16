-- Kinds of bytes outside of words; those of words stand below.
use Rattle.std.specs.Prelude.{ℕ, Bool, true, false, not, ◌&&◌, ◌||◌, ◌==◌, List, [], ◌∷◌}
use Rattle.jimple_words.specs.Bytes.{is_digit, is_letter}

abbrev pub line_feed : ℕ
line_feed = 10

abbrev pub double_quote : ℕ
double_quote = 34

abbrev pub hash : ℕ
hash = 35

abbrev pub single_quote : ℕ
single_quote = 39

abbrev pub minus : ℕ
minus = 45

abbrev pub dot : ℕ
dot = 46

abbrev pub backslash : ℕ
backslash = 92

-- space, tab, carriage return and line feed
abbrev pub is_blank : ℕ → Bool
is_blank c = (c == 32) || (c == 9) || (c == 13) || (c == line_feed)

-- what stands between the quotes of a quoted segment
abbrev pub is_quotable : ℕ → Bool
is_quotable c = not (c == single_quote) && not (c == line_feed)

-- what stands for itself inside a string
abbrev pub is_literal : ℕ → Bool
is_literal c = not (c == double_quote) && not (c == backslash) && not (c == line_feed)

-- what a number goes on with behind the byte before: a sign only directly behind `e` or `E`
abbrev pub goes_on : ℕ → ℕ → Bool
goes_on before c = is_digit c || is_letter c || (c == dot) || (((before == 101) || (before == 69)) && ((c == 43) || (c == minus)))

-- whether the text begins with these bytes
abbrev pub begins_with : List ℕ → List ℕ → Bool
begins_with [] text = true
begins_with (c ∷ cs) [] = false
begins_with (c ∷ cs) (x ∷ xs) = (c == x) && begins_with cs xs
