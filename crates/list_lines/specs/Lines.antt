-- Lines of lists (docs/FORMATS.md, "Lines of lists").
use Rattle.std.specs.Prelude.{◌≡◌, ◌-◌, ◌==◌, ℕ, Bool, not, List, [], ◌∷◌, length, take, drop, map}
use Rattle.std.specs.List.{prefix_len, suffix_len}
use mathlib.Core.Bool.{◌||◌}
use Rattle.bstr.specs.Text.{lines_of, without_terminator}

-- a tab or a space
abbrev pub is_blank : ℕ → Bool
is_blank c = c == 9 || c == 32

abbrev pub without_blanks_before : List ℕ → List ℕ
without_blanks_before text = drop (prefix_len is_blank text) text

abbrev pub without_blanks_behind : List ℕ → List ℕ
without_blanks_behind text = take (length text - suffix_len is_blank text) text

abbrev pub trimmed : List ℕ → List ℕ
trimmed text = without_blanks_behind (without_blanks_before text)

-- the lines of a text, each without its line feed, one carriage return before that, and then the blanks at both ends
abbrev pub list_lines : List ℕ → List (List ℕ)
list_lines bytes = map trimmed (map without_terminator (lines_of bytes))

-- how many bytes stand before the first blank
abbrev pub word_len : List ℕ → ℕ
word_len line = prefix_len (λ c. not (is_blank c)) line

-- the line gives nothing: it is empty, or it begins with a percent sign
abbrev pub IsPassedOver : List ℕ → Type 0
IsPassedOver [] = Unit {0}
IsPassedOver (c ∷ cs) = c ≡ 37
